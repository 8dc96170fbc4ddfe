use Rattle.std.proofs.Common.{sym}
use Rattle.pddl_task.proofs.TypeNames.{mentioned_more}
use Rattle.pddl_task.proofs.SameType.{at_same, mentioned_again}
use Rattle.pddl_task.proofs.typing.add_mentioned.Goals as goal

pub returns-then-repeats_type : goal.returns-then-repeats_type
returns-then-repeats_type c =
    let here = c.index-items-place.result in
    let is = (at_same c.args.types.now c.as_slice-items.result.now c.args.place here c.index-items-place.is c.as_slice-items.ensures) in
    rw (c.in_ok-add.ensures.names, c.requires.before, c.as_slice.ensures) (sym (mentioned_again c.args.types.now c.args.place here c.requires.place is (c.repeats_type.ensures c.if-repeats_type.true)))

pub returns : goal.returns
returns c =
    let here = c.index-items-place.result in
    let is = (at_same c.args.types.now c.as_slice-items.result.now c.args.place here c.index-items-place.is c.as_slice-items.ensures) in
    rw (c.in_ok-add-2.ensures.names, c.in_ok-add.ensures.names, c.requires.before, c.as_slice.ensures, c.given_type.ensures) (sym (mentioned_more c.args.types.now c.args.place here c.requires.place is))
