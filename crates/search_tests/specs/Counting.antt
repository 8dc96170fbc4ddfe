-- What the counters of the tests do, each by its number.
use Rattle.std.specs.Prelude.{ℕ, ◌+◌, ◌-◌, ◌^◌, ◌==◌, min, if◌then◌else◌}
use Rattle.flag_rules.specs.declared.flags.Sign.{Sign}
use Rattle.flag_rules.specs.declared.flags.Sign.TheVariants as signs

-- where a counter starts
abbrev pub start_of : ℕ → ℕ
start_of counter = if counter == 0 then 3 else (if counter == 4 then 100 else 1)

-- the count after one more operation
abbrev pub next_count : ℕ → ℕ → ℕ
next_count counter count = if counter == 3 then min (count + 1) (2 ^ 32 - 1) else (if counter == 2 then 3 - count else count - 1)

-- the sign of a count
abbrev pub sign_of_count : ℕ → Sign
sign_of_count count = if count == 0 then signs.Zero else signs.Positive

-- how much of its goal is missing
abbrev pub missing_of : ℕ → ℕ → ℕ
missing_of counter count = if counter == 0 then count else 2
