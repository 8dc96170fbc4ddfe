-- Budgets of splits and limits of steps with which a search comes to a program, or to none.
use Rattle.std.specs.Prelude.{ℕ, zero, suc, ◌+◌, ◌-◌, ◌*◌, ◌^◌, ◌<◌, ◌≤◌, length}
use Rattle.program_model.specs.declared.alphabet.TheConstants.{CONDITIONS}
use Rattle.program_model.specs.Semantics.{Semantics}
use Rattle.program_model.specs.Program.{Program, IsPartial}
use Rattle.program_model.specs.Run.{EndsMissing, Loops}
use Rattle.program_model.specs.Standing.{Waits}
use Rattle.refutation_tree.specs.declared.evidence.Outcome.{Outcome}
use Rattle.refutation_tree.specs.declared.evidence.Outcome.TheVariants as outcomes

-- how many instructions may stand on a line of a program of so many lines that is not its last, over so many operations
abbrev pub alphabet_size : ℕ → ℕ → ℕ
alphabet_size ops lines = ops + CONDITIONS * (lines - 2)

-- the sum of so many powers of a number: 1, the number itself, its square and so on
abbrev pub sum_of_powers : ℕ → ℕ → ℕ
sum_of_powers base zero = 0
sum_of_powers base (suc count) = sum_of_powers base count + base ^ count

-- how many partial programs of a size may be split: one with no line but the last, as many with one line more as there are
-- instructions, and so on, up to those with one undefined line
abbrev pub splits_at_most : ℕ → ℕ → ℕ
splits_at_most ops size = sum_of_powers (alphabet_size ops size) (size - 1)

-- how many of all sizes up to one
abbrev pub splits_up_to : ℕ → ℕ → ℕ
splits_up_to ops zero = 0
splits_up_to ops (suc size) = splits_up_to ops size + splits_at_most ops (suc size)

-- a run comes to something in time: it ends or waits after at most so many steps, or comes to one configuration twice in the first
-- third of them
pub data ComesInTime {C : Type 0} (m : Semantics C) (q : Program) (t limit : ℕ) : Type 0 where
  ends : (j missing : ℕ) → j ≤ limit → EndsMissing m q t j missing → ComesInTime m q t limit
  waits : (j line : ℕ) → j ≤ limit → Waits m q t j line → ComesInTime m q t limit
  repeats : (i j : ℕ) → 3 * j ≤ limit → Loops m q t i j → ComesInTime m q t limit

-- the limit is enough for programs of at most so many lines: each run of each partial program comes to something in time
abbrev pub IsEnoughFor : {C : Type 0} → Semantics C → (lines limit : ℕ) → Type 0
IsEnoughFor m lines limit = (q : Program) (t : ℕ) → IsPartial m.ops q → length q ≤ lines → t < m.instances → ComesInTime m q t limit

-- the outcome is a program, or that there is none
abbrev pub IsDecided : Outcome → Type 0
IsDecided (outcomes.Program size) = Unit {0}
IsDecided outcomes.Nothing = Unit {0}
IsDecided (outcomes.SpentExpansions size) = ⊥
IsDecided (outcomes.SpentRun size t) = ⊥
