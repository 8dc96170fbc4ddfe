use Rattle.family_gen.specs.Problems.{cell}
use Rattle.family_gen.proofs.Lists.{numbered_more}
use Rattle.family_gen.proofs.problems.cells.Goals as goal

pub loop-number-preserved : goal.loop-number-preserved
loop-number-preserved c = numbered_more cell c.loop-number.cells c.push.new.self c.loop-number.number c.in_ok-cell.field-0 c.loop-number.invariant c.in_ok-cell.ensures c.in_ok-push.ensures.ok
