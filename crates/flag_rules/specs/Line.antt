-- Lines of text, as every output of the planner has them.
use Rattle.std.specs.Prelude.{ℕ, List, [], ◌∷◌, ◌++◌, codes, decimal}

-- a line: a text and the line feed that ends it
abbrev pub line : List ℕ → List ℕ
line text = text ++ 10 ∷ []

-- several lines, one after another
abbrev pub lines_of : List (List ℕ) → List ℕ
lines_of [] = []
lines_of (text ∷ texts) = line text ++ lines_of texts

-- a space and a number in decimal
abbrev pub then_number : ℕ → List ℕ
then_number number = codes " " ++ decimal number
