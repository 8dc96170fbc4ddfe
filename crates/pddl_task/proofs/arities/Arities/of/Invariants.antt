use Rattle.std.proofs.Common.{◌≡◌, ℕ, List, length, take, bytes_eq}
use Rattle.pddl_task.specs.Faults.{arity_named}
use Rattle.pddl_task.proofs.ArityTables.{beside}
use Rattle.pddl_task.proofs.arities.Arities.of.Given as goal

abbrev pub invariant-loop-predicate : goal.invariant-loop-predicate
invariant-loop-predicate l = record {
  counted : length l.arities.heads ≡ length l.arities.counts.items;
  named : (name : List ℕ) → beside (bytes_eq name) l.arities.heads l.arities.counts.items ≡ arity_named (take l.predicate-index l.predicates) name;
}
