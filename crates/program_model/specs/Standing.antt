-- Where a run stands under a limit of steps: ended, unmet, waiting, repeating or at its limit.
use Rattle.std.specs.Prelude.{◌≡◌, ℕ, ◌+◌, ◌*◌, ◌^◌, ◌<◌, ◌≤◌, Some, IsSome}
use Rattle.program_model.specs.declared.standing.Stand.{Stand}
use Rattle.program_model.specs.declared.standing.Stand.TheVariants as stands
use Rattle.program_model.specs.Semantics.{Semantics}
use Rattle.program_model.specs.Program.{Program, IsOpen}
use Rattle.program_model.specs.Run.{Config, at, Ends, Unmet, Loops}

-- the steps at which a run's configuration is marked: 0, 1, 3, 7 and so on
abbrev pub IsMark : ℕ → Type 0
IsMark i = (k : ℕ) × (i + 1 ≡ 2 ^ k)

-- a repetition that can be noticed: from a marked step i to a later step of at most 2 * i + 1
pub record IsNoticeable {C : Type 0} (m : Semantics C) (q : Program) (t i j : ℕ) : Type 0 where
  pub mark : IsMark i
  pub soon : j ≤ 2 * i + 1
  pub loops : Loops m q t i j

-- the repetition that is noticed: the one with the least mark, and of these the one with the least second step
pub record IsNoticed {C : Type 0} (m : Semantics C) (q : Program) (t i j : ℕ) : Type 0 where
  pub noticeable : IsNoticeable m q t i j
  pub least_mark : (a b : ℕ) → a < i → IsNoticeable m q t a b → ⊥
  pub least_repeat : (b : ℕ) → b < j → IsNoticeable m q t i b → ⊥

-- the run stands on an undefined line after s steps
pub record Waits {C : Type 0} (m : Semantics C) (q : Program) (t s line : ℕ) : Type 0 where
  pub config : Config C
  pub comes : at m q t s ≡ Some config
  pub here : config.line ≡ line
  pub is_open : IsOpen q line

-- what a run comes to at step s, under no limit and no quota
abbrev pub Comes : {C : Type 0} → Semantics C → Program → ℕ → ℕ → Stand → Type 0
Comes m q t s stands.Ended = Ends m q t s
Comes m q t s stands.Unmet = Unmet m q t s
Comes m q t s (stands.Repeats i j) = (j ≡ s) × IsNoticed m q t i j
Comes m q t s (stands.Waits line) = Waits m q t s line
Comes m q t s stands.AtLimit = ⊥
Comes m q t s stands.QuotaUsed = ⊥

-- a run comes to nothing at the steps below s
abbrev pub NothingBefore : {C : Type 0} → Semantics C → Program → ℕ → ℕ → Type 0
NothingBefore m q t s = (r : ℕ) (standing : Stand) → r < s → Comes m q t r standing → ⊥

-- the standing of a run under a limit, with the step where it is reached: the first that the run comes to, at a step of
-- at most the limit; else at the limit. No run has a used quota for its standing.
abbrev pub IsStanding : {C : Type 0} → Semantics C → Program → ℕ → ℕ → ℕ → Stand → Type 0
IsStanding m q t limit s stands.AtLimit = (s ≡ limit) × IsSome (at m q t limit) × NothingBefore m q t (limit + 1)
IsStanding m q t limit s stands.QuotaUsed = ⊥
IsStanding m q t limit s standing = (s ≤ limit) × Comes m q t s standing × NothingBefore m q t s
