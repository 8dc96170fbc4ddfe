-- What contracts see of the partial programs that wait.
use Rattle.std.specs.Prelude.{◌≡◌, ◌≢◌, ℕ, ◌<◌, List, [], ◌∷◌, length, All, Option, None, is_some, count_by, slice_index_or, slice_set}
use Rattle.program_model.specs.declared.instr.Instr.{Instr}
use Rattle.program_model.specs.Program.{Program, with_line}
use Rattle.interpreter.specs.declared.run.Run.{Run}

-- a program that waits, and its runs, by their instances
pub record Waiting (C : Type 0) : Type 0 where
  pub program : Program
  pub runs : List (Run C)

-- the programs that wait, by their numbers; for how many more there is room, and for how many more runs
pub record Programs (C : Type 0) : Type 0 where
  pub kept : List (Option (Waiting C))
  pub room : ℕ
  pub run_room : ℕ

module _ {C : Type 0} where
  -- the program of a number, if one is kept there
  abbrev pub kept_at : List (Option (Waiting C)) → ℕ → Option (Waiting C)
  kept_at kept id = slice_index_or kept id None

  abbrev pub kept_count : List (Option (Waiting C)) → ℕ
  kept_count kept = count_by is_some kept

  -- this is now kept at one number, and at all others what was there before
  pub record Becomes (old new : List (Option (Waiting C))) (id : ℕ) (now : Option (Waiting C)) : Type 0 where
    pub here : kept_at new id ≡ now
    pub others : (other : ℕ) → other ≢ id → kept_at new other ≡ kept_at old other

  -- runs, where some others stand in place of those on their instances
  abbrev pub with_runs : List (Run C) → List (Run C) → List (Run C)
  with_runs runs [] = runs
  with_runs runs (run ∷ moved) = with_runs (slice_set runs run.instance run) moved

  -- each of some runs is on an instance of others
  abbrev pub AreAmong : List (Run C) → List (Run C) → Type 0
  AreAmong runs moved = All (λ run. run.instance < length runs) moved

  -- the child of a program: it has an instruction on one line more, and runs of its own in place of some of its parent's
  abbrev pub child_of : Waiting C → ℕ → Instr → List (Run C) → Waiting C
  child_of parent line instr moved = record { program = with_line parent.program line instr; runs = with_runs parent.runs moved }
