-- The copies that are made where a run is advanced: one at each mark step that it comes to, at most.
use Rattle.std.specs.Prelude.{ℕ, zero, suc, ◌+◌, ◌-◌, ◌^◌, ◌≤◌, Bool, ◌==◌, if◌then◌else◌}
use Rattle.std.specs.List.{range_with_len, list_any}
use Rattle.flag_rules.specs.Counts.{raised}

-- whether a step is one less than a power of 2
abbrev pub is_mark_step : ℕ → Bool
is_mark_step step = list_any (λ k. 2 ^ k == step + 1) (range_with_len 0 (step + 1))

-- how many mark steps come after step 0, up to this one
abbrev pub marks_up_to : ℕ → ℕ
marks_up_to zero = 0
marks_up_to (suc step) = marks_up_to step + (if is_mark_step (suc step) then 1 else 0)

-- how many mark steps come after one step, up to another
abbrev pub marks_between : ℕ → ℕ → ℕ
marks_between from to = marks_up_to to - marks_up_to from

-- a count did not fall, and rose by at most so much
abbrev pub RaisedAtMost : ℕ → ℕ → ℕ → Type 0
RaisedAtMost by old new = (old ≤ new) × (new ≤ raised old by)
