-- What contracts see of a frontier.
use Rattle.std.specs.Prelude.{ℕ, ◌*◌, ◌^◌, ◌<◌, ◌≤◌, List}
use Rattle.flag_rules.specs.Counts.{raised}

-- the pairs of a key and a number, in an order that says nothing, and how many more may be added before memory is needed
pub record Pairs (K : Type 0) : Type 0 where
  pub pairs : List (K × ℕ)
  pub spare : ℕ

-- a count rose by at most twice the binary digits of a number, which are the fewest with the number below two to their power
abbrev pub RoseWithin : ℕ → ℕ → ℕ → Type 0
RoseWithin number before now = (before ≤ now) × ((digits : ℕ) → number < 2 ^ digits → now ≤ raised before (2 * digits))
