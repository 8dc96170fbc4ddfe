use Rattle.std.proofs.Common.{◌≡◌, ◌++◌, drop}
use Rattle.pddl_printer.specs.Printing.{spaced, typed_words}
use Rattle.pddl_printer.proofs.words.typed_list.Given as goal

abbrev pub invariant-loop-index : goal.invariant-loop-index
invariant-loop-index l = l.out ++ spaced (typed_words (drop l.index l.names)) ≡ l.initial.out ++ spaced (typed_words l.names)
