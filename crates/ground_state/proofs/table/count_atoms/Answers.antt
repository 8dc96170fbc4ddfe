use Rattle.std.proofs.Common.{arith}
use Rattle.ground_state.proofs.Counts.{atoms_upto, atoms_fit}
use Rattle.ground_state.proofs.table.count_atoms.Goals as goal

pub pow-count-requires : goal.pow-count-requires
pow-count-requires c =
    let all = atoms_fit c.args.objects c.args.predicates.now c.requires.few c.requires.fit.few c.requires.fit.arities in
    rw c.from.ensures (omega (arith, all, atoms_upto c.args.objects _ _ c.predicate-item.result c.loop-predicate-test.true c.predicate-item.is))

pub overflow_add-count : goal.overflow_add-count
overflow_add-count c =
    let all = atoms_fit c.args.objects c.args.predicates.now c.requires.few c.requires.fit.few c.requires.fit.arities in
    let power = rw c.from.ensures at c.pow-count.ensures in
    omega (arith, all, power, c.loop-predicate.invariant, atoms_upto c.args.objects _ _ c.predicate-item.result c.loop-predicate-test.true c.predicate-item.is)
