use Rattle.std.proofs.Common.{◌≡◌, ◌++◌, drop}
use Rattle.pddl_printer.specs.Printing.{spaced, texts_of}
use Rattle.pddl_printer.proofs.words.words.Given as goal

abbrev pub invariant-loop-each : goal.invariant-loop-each
invariant-loop-each l = l.out ++ spaced (texts_of (drop l.each-index l.each-items)) ≡ l.initial.out ++ spaced (texts_of l.each-items)
