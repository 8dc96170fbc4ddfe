use Rattle.family_gen.specs.Problems.{at, next}
use Rattle.family_gen.proofs.Lists.{numbered_after}
use Rattle.family_gen.proofs.problems.corridor.Goals as goal

pub loop-number-preserved : goal.loop-number-preserved
loop-number-preserved c = numbered_after next (at 0) c.loop-number.init c.push.new.self c.loop-number.number c.in_ok-next.field-0 c.loop-number.invariant c.in_ok-next.ensures c.in_ok-push.ensures.ok
