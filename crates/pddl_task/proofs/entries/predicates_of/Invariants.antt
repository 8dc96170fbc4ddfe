use Rattle.std.proofs.Common.{◌≡◌, map, take}
use Rattle.pddl_task.specs.Parts.{predicate_of}
use Rattle.pddl_task.proofs.entries.predicates_of.Given as goal

abbrev pub invariant-loop-predicate : goal.invariant-loop-predicate
invariant-loop-predicate l = l.entries ≡ map (predicate_of) (take l.predicate-index l.predicates)
