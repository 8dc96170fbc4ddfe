use Rattle.std.proofs.Common.{◌≡◌, length, map, take, EachIndex, slice_index}
use Rattle.ground_state.specs.declared.parts.PredicateEntry.{PredicateEntry}
use Rattle.ground_state.specs.GroundAtoms.{atom_count}
use Rattle.ground_state.proofs.numbering.Numbering.of.Given as goal

abbrev pub invariant-loop-predicate : goal.invariant-loop-predicate
invariant-loop-predicate l = record {
  arities : l.arities.items ≡ map (λ (entry : PredicateEntry). entry.arity) (take l.predicate-index l.predicates);
  count : l.count ≡ atom_count l.objects l.arities.items;
  long : length l.firsts.items ≡ length l.arities.items;
  firsts : EachIndex l.firsts.items (λ k. slice_index l.firsts.items k ≡ atom_count l.objects (take k l.arities.items));
}
