use Rattle.family_gen.specs.Problems.{lit}
use Rattle.family_gen.proofs.Lists.{numbered_more}
use Rattle.family_gen.proofs.problems.all_lit.Goals as goal

pub loop-number-preserved : goal.loop-number-preserved
loop-number-preserved c = numbered_more lit c.loop-number.atoms c.push.new.self c.loop-number.number c.in_ok-lit.field-0 c.loop-number.invariant c.in_ok-lit.ensures c.in_ok-push.ensures.ok
