use Rattle.std.proofs.Common.{◌≡◌, ℕ, List, ◌∷◌, map, take, string_bytes, Bor}
use Rattle.command_words.specs.Inner.Parser.{name_of}
use Rattle.command_words.proofs.matching.with_name.Given as goal

abbrev pub invariant-loop-word : goal.invariant-loop-word
invariant-loop-word l = map (λ (word : Bor (List ℕ)). word.now) l.all.items ≡ name_of l.fn.command ∷ map string_bytes (take l.word-index l.words)
