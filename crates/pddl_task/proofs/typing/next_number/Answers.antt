use Rattle.std.proofs.Common.{◌-◌, get_or}
use Rattle.pddl_task.proofs.SameType.{at_same, last_low, number_again, number_next}
use Rattle.pddl_task.proofs.typing.next_number.Goals as goal

pub bounds-before-last : goal.bounds-before-last
bounds-before-last c =
    let here = c.index-items-place.result in
    let is = (at_same c.args.list.now c.as_slice-items.result.now c.args.place here c.index-items-place.is c.as_slice-items.ensures) in
    last_low c.args.list.now c.args.place here c.requires.place is (c.repeats_type.ensures c.if-repeats_type.true) c.args.names.now c.args.before.now c.requires.before

pub returns-then-repeats_type : goal.returns-then-repeats_type
returns-then-repeats_type c =
    let here = c.index-items-place.result in
    let is = (at_same c.args.list.now c.as_slice-items.result.now c.args.place here c.index-items-place.is c.as_slice-items.ensures) in
    number_next c.args.names.now c.args.list.now c.args.place here c.args.before.now (get_or c.args.before.now (c.args.place - 1) 0) c.requires.place is c.requires.before
    (number_again c.args.list.now c.args.place here c.requires.place is (c.repeats_type.ensures c.if-repeats_type.true) c.args.names.now c.args.before.now c.requires.before)

pub returns : goal.returns
returns c =
    let here = c.index-items-place.result in
    let is = (at_same c.args.list.now c.as_slice-items.result.now c.args.place here c.index-items-place.is c.as_slice-items.ensures) in
    number_next c.args.names.now c.args.list.now c.args.place here c.args.before.now c.number_of_type.result c.requires.place is c.requires.before c.number_of_type.ensures
