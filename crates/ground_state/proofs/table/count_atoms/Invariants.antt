use Rattle.std.proofs.Common.{◌≡◌, map, take}
use Rattle.ground_state.specs.declared.parts.PredicateEntry.{PredicateEntry}
use Rattle.ground_state.specs.GroundAtoms.{atom_count}
use Rattle.ground_state.proofs.table.count_atoms.Given as goal

abbrev pub invariant-loop-predicate : goal.invariant-loop-predicate
invariant-loop-predicate l = l.count ≡ atom_count l.objects (map (λ (entry : PredicateEntry). entry.arity) (take l.predicate-index l.predicates))
