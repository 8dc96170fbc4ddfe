-- Names and their numbers: how types, predicates, parameters and objects are numbered.
use Rattle.std.specs.Prelude.{ℕ, Bool, List, [], ◌∷◌, ◌++◌, if◌then◌else◌, fold, bytes_eq}
use Rattle.std.specs.List.{list_any, position_or_len}

-- whether a name is among some names
abbrev pub is_among : List ℕ → List (List ℕ) → Bool
is_among name names = list_any (bytes_eq name) names

-- some names, and then one more where it is not among them
abbrev pub with_name : List (List ℕ) → List ℕ → List (List ℕ)
with_name names name = if is_among name names then names else names ++ name ∷ []

-- some names, and then the others of a list, each once, in order of their first appearance
abbrev pub with_names : List (List ℕ) → List (List ℕ) → List (List ℕ)
with_names = fold with_name

-- the number of a name among some names, from 0, which is the place where it stands first, or how many names there are where it is not among them
abbrev pub number_of : List (List ℕ) → List ℕ → ℕ
number_of names name = position_or_len (bytes_eq name) names
