use Rattle.std.proofs.Common.{◌≡◌, take}
use Rattle.pointer_machine.specs.Operations.{count_by_entry, arity_of}
use Rattle.pointer_machine.proofs.operations.count_tests.Given as goal

abbrev pub invariant-loop-predicate : goal.invariant-loop-predicate
invariant-loop-predicate l = l.count ≡ count_by_entry arity_of l.pointers (take l.predicate-index l.predicate-items)
