use Rattle.std.proofs.Common.{◌∙◌, ◌-◌, get_or, arith}
use Rattle.pddl_task.proofs.ParentNumbers.{given_by_none, number_low, given_before}
use Rattle.pddl_task.proofs.SameType.{number_at, numbers_long}
use Rattle.pddl_task.proofs.typing.given_parents.Goals as goal

pub loop-place-init : goal.loop-place-init
loop-place-init c =
    c.in_ok-parents.ensures.items_if_clones_equal (λ y is. is)
    ∙ given_by_none c.args.types.now c.args.types.now c.args.names.now _ _ c.requires.all c.len.ensures (omega arith)

pub bounds-given-place : goal.bounds-given-place
bounds-given-place c = omega (arith, numbers_long c.args.names.now c.args.types.now c.args.given.now c.requires.given)

pub index_mut-requires : goal.index_mut-requires
index_mut-requires c =
    let low = number_low c.args.types.now c.args.names.now c.loop-place.parents.items c.loop-place.place c.number.result (get_or c.args.given.now (c.loop-place.place - 1) 0) c.as_slice.result.now c.index-types-place.result
    c.requires.all (omega arith) (omega arith) c.index-types-place.is c.as_slice.ensures c.number.ensures c.loop-place.invariant in
    omega (arith, low, c.loop-place.parents.ok.0)

pub loop-place-preserved : goal.loop-place-preserved
loop-place-preserved c =
    given_before c.args.types.now c.args.names.now c.loop-place.parents.items c.loop-place.place c.number.result (get_or c.args.given.now (c.loop-place.place - 1) 0) c.as_slice.result.now c.index-types-place.result
    c.requires.all (omega arith) (omega arith) c.index-types-place.is c.as_slice.ensures c.number.ensures c.loop-place.invariant
    (number_at c.args.names.now c.args.types.now (c.loop-place.place - 1) c.index-types-place.result c.args.given.now (omega arith) c.index-types-place.is c.requires.given)
