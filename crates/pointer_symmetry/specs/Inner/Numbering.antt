-- How new numbers are given to pointers, one after another.
use Rattle.std.specs.Prelude.{◌≡◌, ℕ, ◌<◌, ◌==◌, ◌||◌, true, false, slice_set}
use Rattle.pointer_symmetry.specs.declared.numbering.Numbering.{Numbering}
use Rattle.pointer_symmetry.specs.Used.{has}

-- a pointer is given a number, the least that was not given
pub record IsGiven (old : Numbering) (pointer least : ℕ) (new : Numbering) : Type 0 where
  pub free : has old.given least ≡ false
  pub lesser : (number : ℕ) → number < least → has old.given number ≡ true
  pub images : new.images ≡ slice_set old.images pointer least
  pub numbered : (other : ℕ) → has new.numbered other ≡ (has old.numbered other || other == pointer)
  pub given : (other : ℕ) → has new.given other ≡ (has old.given other || other == least)

-- a pointer that has no number is given one; nothing changes where it has one
pub record IsNumbered (old : Numbering) (pointer : ℕ) (new : Numbering) : Type 0 where
  pub still : has old.numbered pointer ≡ true → new ≡ old
  pub given : has old.numbered pointer ≡ false → (least : ℕ) × IsGiven old pointer least new
