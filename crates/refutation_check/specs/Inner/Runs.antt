-- Where a run stands, and whether it came to a step.
use Rattle.std.specs.Prelude.{◌≡◌, ℕ, ◌+◌, ◌<◌, List, length, slice_index_or, Bool, true, false, Option, Some, None}
use Rattle.program_model.specs.Semantics.{Semantics}
use Rattle.program_model.specs.Program.{Program}
use Rattle.program_model.specs.Run.{Config, at, EndsMissing}
use Rattle.refutation_check.specs.declared.configuration.Configuration.{Configuration}
use Rattle.refutation_check.specs.declared.run.Run.{Run}
use Rattle.refutation_check.specs.declared.trial.Trial.{Trial}

-- the configuration that the code holds
abbrev pub config_of : {C : Type 0} → Configuration C → Config C
config_of here = record { line = here.line; value = here.value }

-- the run stands where the program's run on the instance stands after its steps
pub record StandsAt {C : Type 0} (m : Semantics C) (belongs : ℕ → C → Type 0) (q : Program) (t : ℕ) (run : Run C) : Type 0 where
  pub here : at m q t run.steps ≡ Some (config_of run.here)
  pub within : run.here.line < length q
  pub value : belongs t run.here.value

-- the run made a step; or there is none
abbrev pub HasMoved : {C : Type 0} → Semantics C → Program → ℕ → Run C → Run C → Bool → Type 0
HasMoved m q t old new true = new.steps ≡ old.steps + 1
HasMoved m q t old new false = (new ≡ old) × (at m q t (old.steps + 1) ≡ None)

-- the run came to a step; or there is no such step
abbrev pub HasCome : {C : Type 0} → Semantics C → Program → ℕ → ℕ → Run C → Bool → Type 0
HasCome m q t steps run true = run.steps ≡ steps
HasCome m q t steps run false = at m q t steps ≡ None

-- how much of the goal is missing where the program's run ends after so many steps, if it does
abbrev pub TellsEnd : {C : Type 0} → Semantics C → Program → ℕ → ℕ → Option ℕ → Type 0
TellsEnd m q t steps (Some missing) = EndsMissing m q t steps missing
TellsEnd m q t steps None = (missing : ℕ) → EndsMissing m q t steps missing → ⊥

-- the runs are one on each instance
pub record AreRuns {C : Type 0} (belongs : ℕ → C → Type 0) (instances : ℕ) (runs : List (Run C)) : Type 0 where
  pub count : length runs ≡ instances
  pub values : (t : ℕ) (d : Run C) → t < instances → belongs t (slice_index_or runs t d).here.value

-- each of the runs, one on each instance, is a run of the program
abbrev pub AllStandAt : {C : Type 0} → Semantics C → (ℕ → C → Type 0) → Program → List (Run C) → Type 0
AllStandAt {C} m belongs q runs = (t : ℕ) (d : Run C) → t < m.instances → StandsAt m belongs q t (slice_index_or runs t d)

-- the trial is on the instance
pub record IsTrial {C : Type 0} (belongs : ℕ → C → Type 0) (t : ℕ) (trial : Trial C) : Type 0 where
  pub going : belongs t trial.going.here.value
  pub kept : belongs t trial.kept.value

-- the trials are one on each instance
pub record AreTrials {C : Type 0} (belongs : ℕ → C → Type 0) (instances : ℕ) (trials : List (Trial C)) : Type 0 where
  pub count : length trials ≡ instances
  pub each : (t : ℕ) (d : Trial C) → t < instances → IsTrial belongs t (slice_index_or trials t d)
