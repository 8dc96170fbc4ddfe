-- Counts of 64 bits: each stops at the last value, and never falls.
use Rattle.std.specs.Prelude.{ℕ, ◌+◌, ◌-◌, ◌^◌, ◌≤◌, min, max}

-- the last value that a count has
abbrev pub last_count : ℕ
last_count = 2 ^ 64 - 1

-- a count after it rose
abbrev pub raised : ℕ → ℕ → ℕ
raised count by = max count (min (count + by) last_count)

-- a count after one more
abbrev pub counted : ℕ → ℕ
counted count = raised count 1

-- a count rose: it is greater than before, or stands at the last value
abbrev pub Rose : ℕ → ℕ → Type 0
Rose before now = min (before + 1) last_count ≤ now
