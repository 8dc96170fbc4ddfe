-- The outcomes of a program's runs: of each, its instance, its standing, and what is counted there.
use Rattle.std.specs.Prelude.{◌≡◌, ℕ, ◌+◌, ◌<◌, List, [], ◌∷◌, Some}
use Rattle.program_model.specs.declared.outcome.RunOutcome.{RunOutcome}
use Rattle.program_model.specs.Semantics.{Semantics}
use Rattle.program_model.specs.Program.{Program}
use Rattle.program_model.specs.Run.{Config, at}
use Rattle.program_model.specs.Standing.{IsStanding}

-- the outcome is that of the program's run on its instance, under a limit of steps
pub record IsOutcome {C : Type 0} (m : Semantics C) (q : Program) (limit : ℕ) (x : RunOutcome) : Type 0 where
  pub within : x.instance < m.instances
  pub config : Config C
  pub comes : at m q x.instance x.steps ≡ Some config
  pub lacks : m.missing x.instance config.value ≡ x.missing
  pub stands : IsStanding m q x.instance limit x.steps x.standing

-- the outcomes are those of the program's runs on the instances from t on, in order
abbrev pub AreOutcomesFrom : {C : Type 0} → Semantics C → Program → ℕ → ℕ → List RunOutcome → Type 0
AreOutcomesFrom m q limit t [] = t ≡ m.instances
AreOutcomesFrom m q limit t (x ∷ xs) = (x.instance ≡ t) × IsOutcome m q limit x × AreOutcomesFrom m q limit (t + 1) xs

-- the outcomes are those of the program's runs on all instances, in order
abbrev pub AreOutcomes : {C : Type 0} → Semantics C → Program → ℕ → List RunOutcome → Type 0
AreOutcomes m q limit xs = AreOutcomesFrom m q limit 0 xs

-- the outcome of the run on an instance is such
pub record ComesOut {C : Type 0} (m : Semantics C) (q : Program) (limit t : ℕ) (Such : RunOutcome → Type 0) : Type 0 where
  pub outcome : RunOutcome
  pub instance : outcome.instance ≡ t
  pub is_outcome : IsOutcome m q limit outcome
  pub such : Such outcome
