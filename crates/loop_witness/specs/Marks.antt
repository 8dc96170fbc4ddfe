-- The steps whose configurations are marked, and what contracts see of marks.
use Rattle.std.specs.Prelude.{◌≡◌, ℕ, ◌+◌, ◌^◌, ◌≤◌}

-- the steps at which the mark stands, one after another: 0, 1, 3, 7 and so on
abbrev pub IsMarkStep : ℕ → Type 0
IsMarkStep step = (k : ℕ) × (step + 1 ≡ 2 ^ k)

-- how many steps were counted, and the step of the mark
pub record Counted : Type 0 where
  pub steps : ℕ
  pub mark : ℕ

-- the mark is at the greatest step for a mark that was counted
pub record IsLatest (marks : Counted) : Type 0 where
  pub is_mark_step : IsMarkStep marks.mark
  pub reached : marks.mark ≤ marks.steps
  pub greatest : (step : ℕ) → IsMarkStep step → step ≤ marks.steps → step ≤ marks.mark
