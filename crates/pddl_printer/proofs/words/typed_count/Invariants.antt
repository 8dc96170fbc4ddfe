use Rattle.std.proofs.Common.{◌≤◌, take}
use Rattle.pddl_printer.specs.Printing.{has_type}
use Rattle.pddl_printer.proofs.TypedCount.{Counts}
use Rattle.pddl_printer.proofs.words.typed_count.Given as goal

abbrev pub invariant-loop-index : goal.invariant-loop-index
invariant-loop-index l = record { within : l.count ≤ l.index; counts : Counts has_type (take l.index l.names) l.count }
