-- Canonical forms of operations, and twins: of the operations that differ in the numbers of unused pointers alone, one is
-- canonical, and the others are its twins.
use Rattle.std.specs.Prelude.{ℕ, ◌==◌, Bool, false, not, List, [], ◌∷◌, ◌++◌, map, option_map, slice_index, unwrap_or}
use Rattle.std.specs.List.{filter, position_from, range_with_len}
use Rattle.program_model.specs.declared.instr.Instr.{Instr}
use Rattle.program_model.specs.declared.instr.Instr.TheVariants.{Op, Goto, End}
use Rattle.program_model.specs.declared.machine.TheConstants.{MAX_POINTERS}
use Rattle.program_model.specs.Semantics.{Semantics}
use Rattle.program_model.specs.Program.{Program}
use Rattle.pointer_symmetry.specs.Used.{is_used}

-- the numbers in a list, each where it first stands
abbrev pub first_of_each : List ℕ → List ℕ
first_of_each [] = []
first_of_each (number ∷ numbers) = number ∷ filter (λ other. not (other == number)) (first_of_each numbers)

-- those that are not used
abbrev pub unused_of : (ℕ → Bool) → List ℕ → List ℕ
unused_of used numbers = filter (λ number. not (used number)) numbers

-- the unused pointers, of so many, in rising order
abbrev pub unused : (ℕ → Bool) → ℕ → List ℕ
unused used pointers = unused_of used (range_with_len 0 pointers)

-- the unused pointers in the order in which an operation first names them, and those that it does not name after them
abbrev pub in_new_order : (ℕ → Bool) → ℕ → List ℕ → List ℕ
in_new_order used pointers named = first_of_each (unused_of used (named ++ range_with_len 0 pointers))

-- the new number of a pointer: a used one keeps its own, and the unused ones in their new order get the unused numbers in rising order
abbrev pub canonical_number : (ℕ → Bool) → ℕ → List ℕ → ℕ → ℕ
canonical_number used pointers named pointer =
    unwrap_or (option_map (slice_index (unused used pointers)) (position_from (λ other. other == pointer) 0 (in_new_order used pointers named))) pointer

-- the new numbers of all pointers
abbrev pub canonical_renaming : (ℕ → Bool) → ℕ → List ℕ → List ℕ
canonical_renaming used pointers named = map (canonical_number used pointers named) (range_with_len 0 MAX_POINTERS)

module _ {C : Type 0} (m : Semantics C) where
  -- the canonical form of an operation, where some pointers are used
  abbrev pub canonical : (ℕ → Bool) → ℕ → ℕ
  canonical used op = m.rename (canonical_renaming used m.pointers (m.pointers_of op)) op

  -- that of an instruction; a jump and `end` are their own
  abbrev pub canonical_instr : (ℕ → Bool) → Instr → Instr
  canonical_instr used (Op op) = Op (canonical used op)
  canonical_instr used (Goto target cond) = Goto target cond
  canonical_instr used End = End

  -- whether an instruction is not its canonical form
  abbrev pub is_twin : (ℕ → Bool) → Instr → Bool
  is_twin used (Op op) = not (canonical used op == op)
  is_twin used _ = false

  -- the children of a partial program that are twins, by the instruction that they add
  abbrev pub twins : Program → Instr → Bool
  twins q instr = is_twin (is_used m q) instr
