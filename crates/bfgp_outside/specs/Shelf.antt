-- What a shelf holds, what a read of it gives, and when a read fails.
use Rattle.std.specs.Prelude.{◌≡◌, ◌↔◌, ◌⊎◌, ℕ, ◌≤◌, Bool, true, false, List, ◌++◌, length, take, drop, replicate, Option, Some, None, Result, Ok, Err}
use Rattle.bfgp_outside.specs.Causes.{RoseIf}
use Rattle.bfgp_outside.specs.declared.shelf.ShelfFault.{ShelfFault}
use Rattle.bfgp_outside.specs.declared.shelf.ShelfFault.TheVariants.{Absent, Failed}

-- the bytes that are held under each name, or none
abbrev pub Files : Type 0
Files = List ℕ → Option (List ℕ)

-- a fact about the files, where the shelf tells them
abbrev pub Knowing : Option Files → (Files → Type 0) → Type 0
Knowing None P = Unit {0}
Knowing (Some files) P = P files

-- a fact about what is held under one name, where the shelf tells it
abbrev pub Told : Option Files → List ℕ → (Option (List ℕ) → Type 0) → Type 0
Told told name P = Knowing told (λ files. P (files name))

-- the buffer begins with the next m bytes from a place on; none come only with no room or at the end
pub record GivesBytes (bytes : List ℕ) (from m : ℕ) (into : List ℕ) : Type 0 where
  pub within : m ≤ length (drop from bytes)
  pub same : take m into ≡ take m (drop from bytes)
  pub none : (m ≡ 0) ↔ ((length into ≡ 0) ⊎ (length bytes ≤ from))

-- a read that does not fail gives bytes of the file that is held, and is absent where none is
abbrev pub ReadsHeld : Option (List ℕ) → ℕ → Result ℕ ShelfFault → List ℕ → Type 0
ReadsHeld held from (Err Failed) into = Unit {0}
ReadsHeld held from (Err Absent) into = held ≡ None
ReadsHeld None from (Ok m) into = ⊥
ReadsHeld (Some bytes) from (Ok m) into = GivesBytes bytes from m into

-- whether a failed read is told
abbrev pub is_failed : Option ShelfFault → Bool
is_failed (Some Failed) = true
is_failed (Some Absent) = false
is_failed None = false

-- whether an absent file is told
abbrev pub is_absent : Option ShelfFault → Bool
is_absent (Some Absent) = true
is_absent (Some Failed) = false
is_absent None = false

-- the counts over a call that tells a fault, or none: the count of the fault that is told rose, and the other stands still
pub record CountsFaults {S : Type 0} (faults absences : S → ℕ) (old new : S) (told : Option ShelfFault) : Type 0 where
  pub failed : RoseIf (is_failed told) (faults old) (faults new)
  pub absent : RoseIf (is_absent told) (absences old) (absences new)

-- no call changes a file, and no count falls
pub record GoesOn {S : Type 0} (files : S → Option Files) (faults absences : S → ℕ) (old new : S) : Type 0 where
  pub kept : files new ≡ files old
  pub faults_later : faults old ≤ faults new
  pub absences_later : absences old ≤ absences new

-- the names that a shelf was asked for grew by this one, so many times, where the shelf tells them
abbrev pub AsksFor : (before now : Option (List (List ℕ))) → List ℕ → ℕ → Type 0
AsksFor None now name times = Unit {0}
AsksFor (Some names) None name times = ⊥
AsksFor (Some names) (Some more) name times = more ≡ names ++ replicate times name

-- a call asked for no other name than this
abbrev pub Asks : (before now : Option (List (List ℕ))) → List ℕ → Type 0
Asks before now name = (times : ℕ) × AsksFor before now name times
