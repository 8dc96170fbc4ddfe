use Rattle.std.proofs.Common.{◌≡◌, map, take}
use Rattle.pddl_forms.specs.declared.texts.Word.{Word}
use Rattle.pddl_task.specs.Names.{number_of}
use Rattle.pddl_task.proofs.entries.numbers_of.Given as goal

abbrev pub invariant-loop-word : goal.invariant-loop-word
invariant-loop-word l = l.numbers ≡ map (λ (word : Word). number_of l.objects word.text) (take l.word-index l.words)
