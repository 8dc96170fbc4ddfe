use Rattle.family_gen.specs.Problems.{lamp}
use Rattle.family_gen.proofs.Lists.{numbered_more}
use Rattle.family_gen.proofs.problems.lamps.Goals as goal

pub loop-number-preserved : goal.loop-number-preserved
loop-number-preserved c = numbered_more lamp c.loop-number.lamps c.push.new.self c.loop-number.number c.in_ok-lamp.field-0 c.loop-number.invariant c.in_ok-lamp.ensures c.in_ok-push.ensures.ok
