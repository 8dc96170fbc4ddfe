use Rattle.std.proofs.Common.{◌≡◌, take}
use Rattle.pointer_machine.specs.Operations.{count_by_entry, params_of}
use Rattle.pointer_machine.proofs.operations.count_acts.Given as goal

abbrev pub invariant-loop-schema : goal.invariant-loop-schema
invariant-loop-schema l = l.count ≡ count_by_entry params_of l.pointers (take l.schema-index l.schema-items)
