use Rattle.std.proofs.Common.{arith, ap, ◌∙◌}
use Rattle.ground_state.specs.GroundAtoms.{atom_count}
use Rattle.ground_state.proofs.Counts.{atoms_upto}
use Rattle.ground_state.proofs.numbering.Numbering.of.Goals as goal

pub pow-count-requires : goal.pow-count-requires
pow-count-requires c = rw (c.from.ensures, c.from-in-loop-predicate.ensures) (omega (arith, c.requires, atoms_upto c.args.objects _ _ c.predicate-item.result c.loop-predicate-test.true c.predicate-item.is))

pub overflow_add-count : goal.overflow_add-count
overflow_add-count c =
    let count = c.loop-predicate.invariant.count ∙ ap (atom_count c.args.objects) c.loop-predicate.invariant.arities in
    let power = rw (c.from.ensures, c.from-in-loop-predicate.ensures) at c.pow-count.ensures in
    omega (arith, c.requires, count, power, atoms_upto c.args.objects _ _ c.predicate-item.result c.loop-predicate-test.true c.predicate-item.is)
