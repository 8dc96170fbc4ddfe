use Rattle.std.proofs.Common.{arith, refl}
use Rattle.ground_state.specs.declared.parts.Term.TheVariants.{Param}
use Rattle.ground_state.specs.Action.{object_of}
use Rattle.ground_state.proofs.Places.{low_at, tuple_more_at, tuple_fits}
use Rattle.ground_state.proofs.numbering.place_in_tuples_at.Goals as goal

pub overflow_mul-place : goal.overflow_mul-place
overflow_mul-place c =
    let low = low_at (object_of c.args.args.now) c.args.objects c.loop-term.term-index c.args.terms.now (Param 0) c.requires.in_range c.loop-term-test.true in
    omega (arith, tuple_fits _ _ _ _ _ _ _ c.loop-term-test.true c.requires.few low c.loop-term.invariant)

pub overflow_add-place : goal.overflow_add-place
overflow_add-place c =
    let low = low_at (object_of c.args.args.now) c.args.objects c.loop-term.term-index c.args.terms.now (Param 0) c.requires.in_range c.loop-term-test.true in
    omega (arith, tuple_fits _ _ _ _ _ _ _ c.loop-term-test.true c.requires.few low c.loop-term.invariant, c.from.ensures, c.object.ensures)

pub loop-term-preserved : goal.loop-term-preserved
loop-term-preserved c =
    let low = low_at (object_of c.args.args.now) c.args.objects c.loop-term.term-index c.args.terms.now (Param 0) c.requires.in_range c.loop-term-test.true in
    rw (c.from.ensures, c.object.ensures) (tuple_more_at (object_of c.args.args.now) _ _ _ _ _ (Param 0) c.loop-term-test.true refl low c.loop-term.invariant)
