-- Words that are joined one after another.
use Rattle.std.specs.Prelude.{ℕ, List, [], ◌∷◌, ◌++◌}

-- words joined by one space, and one more, if it has a byte
abbrev pub with_word : List ℕ → List ℕ → List ℕ
with_word text [] = text
with_word [] (b ∷ bs) = b ∷ bs
with_word (t ∷ ts) (b ∷ bs) = (t ∷ ts) ++ 32 ∷ b ∷ bs
