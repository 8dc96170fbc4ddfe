-- Words of a typed list that have one type.
use Rattle.std.specs.Prelude.{ℕ, ◌≡◌, ◌<◌, ◌-◌, List, get_or}
use Rattle.pddl_forms.specs.declared.texts.Typed.{Typed}

-- the word at a place has the type of the word before it
abbrev pub IsLikeLast : List Typed → ℕ → Type 0
IsLikeLast list place = (0 < place) × ((other : Typed) → (get_or list place other).of ≡ (get_or list (place - 1) other).of)
