use Rattle.pddl_task.specs.Faults.{IsUnknownType}
use Rattle.pddl_task.proofs.First.{first_more}
use Rattle.pddl_task.proofs.SameType.{at_same, fault_again}
use Rattle.pddl_task.proofs.typing.earlier_unknown_type.Goals as goal

pub returns-then-repeats_type : goal.returns-then-repeats_type
returns-then-repeats_type c =
    let here = c.index-items-place.result in
    let is = (at_same c.args.list.now c.as_slice-items.result.now c.args.place here c.index-items-place.is c.as_slice-items.ensures) in
    fault_again c.args.list.now c.args.place here c.requires.place is (c.repeats_type.ensures c.if-repeats_type.true) c.args.types.now c.args.before c.requires.before

pub returns : goal.returns
returns c =
    let here = c.index-items-place.result in
    let is = (at_same c.args.list.now c.as_slice-items.result.now c.args.place here c.index-items-place.is c.as_slice-items.ensures) in
    rw c.earlier.ensures (first_more (IsUnknownType c.args.types.now) c.args.list.now c.args.place here c.args.before c.unknown_type.result c.requires.place is c.requires.before c.unknown_type.ensures)
