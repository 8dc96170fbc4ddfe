-- The texts by which the operations of a machine are written, one for each, in the order of their numbers.
use Rattle.std.specs.Prelude.{◌≡◌, ◌≢◌, ◌<◌, ◌≤◌, ℕ, Bool, false, ◌&&◌, ◌==◌, not, nat_eq, nat_le, List, [], ◌∷◌, length, codes, IsTrue, All, AllPairs}
use Rattle.std.specs.List.{list_all, starts_with, join_with_byte}
use Rattle.flag_rules.specs.Name.{is_capital}
use Rattle.program_model.specs.declared.alphabet.TheConstants.{MAX_OPS}

-- a byte of a word: a visible one of ASCII, but for capital letters and the semicolon (59), which begins a comment
abbrev pub is_word_byte : ℕ → Bool
is_word_byte b = nat_le 33 b && nat_le b 126 && not (b == 59) && not (is_capital b)

-- a word: one or more such bytes
abbrev pub is_word : List ℕ → Bool
is_word [] = false
is_word (b ∷ bs) = list_all is_word_byte (b ∷ bs)

-- one or more words, joined by one space
pub record IsWorded (text : List ℕ) : Type 0 where
  pub words : List (List ℕ)
  pub some : 0 < length words
  pub each : All (λ word. IsTrue (is_word word)) words
  pub joined : join_with_byte 32 words ≡ text

-- the text of an operation: words that are not `end` and do not begin as a jump does
pub record IsOperationText (text : List ℕ) : Type 0 where
  pub words : IsWorded text
  pub no_end : text ≢ codes "end"
  pub no_jump : starts_with nat_eq text (codes "goto ") ≡ false

-- the texts of the operations of a machine: not too many, and no two the same
pub record AreNames (texts : List (List ℕ)) : Type 0 where
  pub some : 0 < length texts
  pub few : length texts ≤ MAX_OPS
  pub each : All IsOperationText texts
  pub apart : AllPairs (λ one other. one ≢ other) texts
