use Rattle.std.proofs.Common.{arith, refl}
use Rattle.ground_state.proofs.Places.{tuple_more, tuple_fits}
use Rattle.ground_state.proofs.numbering.place_in_tuples.Goals as goal

pub overflow_mul-place : goal.overflow_mul-place
overflow_mul-place c =
    let low = c.requires.in_range c.loop-object.object-index 0 c.loop-object-test.true in
    omega (arith, tuple_fits _ _ _ _ _ _ _ c.loop-object-test.true c.requires.few low c.loop-object.invariant)

pub overflow_add-place : goal.overflow_add-place
overflow_add-place c =
    let low = c.requires.in_range c.loop-object.object-index 0 c.loop-object-test.true in
    omega (arith, tuple_fits _ _ _ _ _ _ _ c.loop-object-test.true c.requires.few low c.loop-object.invariant, c.from.ensures)

pub loop-object-preserved : goal.loop-object-preserved
loop-object-preserved c =
    let low = c.requires.in_range c.loop-object.object-index 0 c.loop-object-test.true in
    rw c.from.ensures (tuple_more _ _ _ _ _ c.loop-object-test.true refl low c.loop-object.invariant)
