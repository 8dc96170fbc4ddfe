-- What a line of a document does to what is still to come.
use Rattle.std.specs.Prelude.{ℕ, ◌↔◌, List, ◌∷◌}
use Rattle.program_model.specs.Semantics.{Semantics}
use Rattle.program_model.specs.Program.{Program}
use Rattle.refutation_check.specs.declared.walk.Walk.{Walk}
use Rattle.document_check.specs.declared.stage.Stage.{Stage}
use Rattle.document_check.specs.declared.progress.Progress.{Progress}
use Rattle.document_check.specs.Standing.{Expects, ExpectsAt, FitsStage}

-- what is to come is, line for line, what is expected where a line comes next: and what has to be so there is so
pub record Remains {C : Type 0} (m : Semantics C) (texts : List (List ℕ)) (lines : ℕ) (walk : Walk C) (program : Program) (ToCome : List (List ℕ) → Type 0) (next : Stage) : Type 0 where
  pub fits : FitsStage m lines walk program next
  pub expects : (more : List (List ℕ)) → ToCome more ↔ ExpectsAt m texts lines walk program next more

-- after a line of this text what is to come is what was expected to come after such a line
abbrev pub Steps : {C : Type 0} → Semantics C → List (List ℕ) → ℕ → Progress C → List ℕ → Progress C → Type 0
Steps m texts lines old text new = (more : List (List ℕ)) → Expects m texts lines old (text ∷ more) ↔ Expects m texts lines new more
