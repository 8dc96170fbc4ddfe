-- Renamings of pointers.
use Rattle.std.specs.Prelude.{◌≡◌, ℕ, ◌<◌, List, length, map, slice_index_or, All}
use Rattle.program_model.specs.declared.machine.TheConstants.{MAX_POINTERS}

-- the new number of a pointer, where the new numbers are listed in order; a number past them stays
abbrev pub image : List ℕ → ℕ → ℕ
image images pointer = slice_index_or images pointer pointer

-- a renaming: a permutation of the four pointer numbers, as the list of the new ones
pub record IsRenaming (images : List ℕ) : Type 0 where
  pub count : length images ≡ MAX_POINTERS
  pub within : All (λ number. number < MAX_POINTERS) images
  pub different : (pointer other : ℕ) → pointer < MAX_POINTERS → other < MAX_POINTERS → image images pointer ≡ image images other → pointer ≡ other

-- a renaming of the first so many pointers among themselves
pub record IsRenamingOf (pointers : ℕ) (images : List ℕ) : Type 0 where
  pub is_renaming : IsRenaming images
  pub among : (pointer : ℕ) → pointer < pointers → image images pointer < pointers

-- one renaming, and then another
abbrev pub composed : List ℕ → List ℕ → List ℕ
composed first second = map (image second) first
