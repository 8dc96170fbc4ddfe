-- Names that are kept each once.
use Rattle.std.specs.Prelude.{ℕ, ◌≢◌, List, [], AllPairs, Option, position, bytes_eq}
use Rattle.pddl_task.specs.Names.{with_names}

-- no two of the names are the same
abbrev pub AreApart : List (List ℕ) → Type 0
AreApart names = AllPairs (λ one other. one ≢ other) names

-- the names of a list, each once
abbrev pub different : List (List ℕ) → List (List ℕ)
different names = with_names [] names

-- the number of a name, if it is among some names
abbrev pub place_among : List (List ℕ) → List ℕ → Option ℕ
place_among names name = position (bytes_eq name) names
