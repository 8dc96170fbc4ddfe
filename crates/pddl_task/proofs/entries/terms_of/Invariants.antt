use Rattle.std.proofs.Common.{◌≡◌, map, take}
use Rattle.pddl_task.specs.Parts.{term_of}
use Rattle.pddl_task.proofs.entries.terms_of.Given as goal

abbrev pub invariant-loop-word : goal.invariant-loop-word
invariant-loop-word l = l.terms ≡ map (term_of l.params l.constants) (take l.word-index l.words)
