use Rattle.std.proofs.Common.{◌+◌, ◌*◌, ◌%◌, refl}
use Rattle.family_gen.proofs.Lists.{numbered_more}
use Rattle.family_gen.proofs.sizes.Round.sizes.Goals as goal

pub loop-instance-preserved : goal.loop-instance-preserved
loop-instance-preserved c =
    numbered_more (λ i. c.args.self.least + (c.args.number + c.args.self.stride * i) % c.args.self.span) c.loop-instance.sizes c.push.new.self c.loop-instance.instance
    (c.args.self.least + (c.args.number + c.args.self.stride * c.loop-instance.instance) % c.args.self.span)
    c.loop-instance.invariant refl c.in_ok-push.ensures.ok
