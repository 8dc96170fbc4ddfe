-- What a typed list keeps of the types of its words.
use Rattle.std.specs.Prelude.{ℕ, ◌≡◌, Bool, true, List, Some, length, slice_get}
use Rattle.pddl_forms.specs.declared.texts.Typed.{Typed}
use Rattle.pddl_forms.specs.SharedTypes.{IsLikeLast}

-- a flag for each word; where it is set, the word has the type of the word before it
pub record AreAlike (list : List Typed) (alike : List Bool) : Type 0 where
  pub counted : length alike ≡ length list
  pub told : (place : ℕ) → slice_get alike place ≡ Some true → IsLikeLast list place
