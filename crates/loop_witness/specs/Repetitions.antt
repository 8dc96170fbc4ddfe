-- The repetitions of a run, and which of them is noticed.
use Rattle.std.specs.Prelude.{◌≡◌, ℕ, suc, ◌+◌, ◌*◌, ◌<◌, ◌≤◌, Option, Some, option_and_then}
use Rattle.loop_witness.specs.Marks.{IsMarkStep, Counted, IsLatest}
use Rattle.loop_witness.specs.declared.turn.Turn.{Turn}
use Rattle.loop_witness.specs.declared.turn.Turn.TheVariants as turns

-- a run makes one step after another, each from the configuration where it stands, until it is in one that has no step
abbrev pub IsRun : {C : Type 0} → (C → Option C) → (ℕ → Option C) → Type 0
IsRun step run = (made : ℕ) → run (suc made) ≡ option_and_then step (run made)

-- a run comes to one configuration twice, after i and after j steps
pub record Repeats {C : Type 0} (run : ℕ → Option C) (i j : ℕ) : Type 0 where
  pub config : C
  pub before : i < j
  pub first_time : run i ≡ Some config
  pub second_time : run j ≡ Some config

-- the first repetition: before its second step no configuration comes twice
pub record IsFirst {C : Type 0} (run : ℕ → Option C) (i j : ℕ) : Type 0 where
  pub repeats : Repeats run i j
  pub first : (a b : ℕ) → b < j → Repeats run a b → ⊥

-- a repetition that can be noticed: from a marked step i to a later step of at most 2 * i + 1
pub record IsNoticeable {C : Type 0} (run : ℕ → Option C) (i j : ℕ) : Type 0 where
  pub mark : IsMarkStep i
  pub soon : j ≤ 2 * i + 1
  pub repeats : Repeats run i j

-- a repetition can be noticed by this step
abbrev pub IsNoticeableBy : {C : Type 0} → (ℕ → Option C) → ℕ → Type 0
IsNoticeableBy run latest = (from : ℕ) × (to : ℕ) × (to ≤ latest) × IsNoticeable run from to

-- the repetition that is noticed: the one with the least mark, and of these the one with the least second step
pub record IsNoticed {C : Type 0} (run : ℕ → Option C) (i j : ℕ) : Type 0 where
  pub noticeable : IsNoticeable run i j
  pub least_mark : (a b : ℕ) → a < i → IsNoticeable run a b → ⊥
  pub least_repeat : (b : ℕ) → b < j → IsNoticeable run i b → ⊥

-- up to this step no repetition is noticed
abbrev pub NoneNoticedBy : {C : Type 0} → (ℕ → Option C) → ℕ → Type 0
NoneNoticedBy run latest = (from to : ℕ) → to ≤ latest → IsNoticed run from to → ⊥

-- the marks have counted steps of a run at which no repetition can be noticed, and the mark is where it has to be
pub record Watches {C : Type 0} (run : ℕ → Option C) (marks : Counted) : Type 0 where
  pub latest : IsLatest marks
  pub unnoticed : (i j : ℕ) → j ≤ marks.steps → IsNoticeable run i j → ⊥

-- the repetition that is answered is the one that is noticed; else the marks still watch the run
abbrev pub IsTold : {C : Type 0} → (ℕ → Option C) → Counted → Turn → Type 0
IsTold run marks (turns.Repeat from to) = IsNoticed run from to
IsTold run marks turns.MarkHere = Watches run marks
IsTold run marks turns.Go = Watches run marks
