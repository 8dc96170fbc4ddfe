use Rattle.std.proofs.Common.{◌≡◌, ◌++◌, drop}
use Rattle.std.specs.List.{flat_map}
use Rattle.pddl_printer.specs.Printing.{spaced, predicate_words}
use Rattle.pddl_printer.proofs.sections.predicates.Given as goal

abbrev pub invariant-loop-each : goal.invariant-loop-each
invariant-loop-each l = l.out ++ spaced (flat_map predicate_words (drop l.each-index l.each-items)) ≡ l.initial.out ++ spaced (flat_map predicate_words l.each-items)
