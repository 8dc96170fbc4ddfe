-- When a fault may be told: where its count rose in the call, and only there.
use Rattle.std.specs.Prelude.{◌≡◌, ℕ, ◌≤◌, Bool, true, false, Result, OnOk, OnErr}
pub use Rattle.flag_rules.specs.Counts.{Rose, counted}

-- a count of failed calls over one call: it never falls, an error comes only where it rose, and no call that fails is passed over
pub record CountsFailure {T E : Type 0} (before now : ℕ) (result : Result T E) : Type 0 where
  pub later : before ≤ now
  pub failed : OnErr result (Rose before now)
  pub kept : OnOk result (now ≡ before)

-- a count over a call that tells what it counts, or does not: it rose and did not fall, or it stands still
abbrev pub RoseIf : Bool → ℕ → ℕ → Type 0
RoseIf true before now = (before ≤ now) × Rose before now
RoseIf false before now = now ≡ before
