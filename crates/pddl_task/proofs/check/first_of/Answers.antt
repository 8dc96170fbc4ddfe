use Rattle.std.proofs.Common.{arith}
use Rattle.pddl_task.proofs.First.{first_more, first_at_end}
use Rattle.pddl_task.proofs.check.first_of.Goals as goal

pub loop-item-preserved : goal.loop-item-preserved
loop-item-preserved g c =
    rw c.earlier-first.ensures (first_more (g.C.Check.IsFault c.args.check.now) c.args.items.now c.loop-item.item-index c.item-item.result c.loop-item.first c.in_ok-of_item.of_item (omega arith) c.item-item.is c.loop-item.invariant c.in_ok-of_item.ensures)

pub returns : goal.returns
returns g c = first_at_end (g.C.Check.IsFault c.args.check.now) c.args.items.now c.loop-item.item-index c.loop-item.first (omega arith) c.loop-item.invariant
