-- Suspended runs: for which step of a program's run one stands, and what is told of it where it is advanced.
use Rattle.std.specs.Prelude.{◌≡◌, ℕ, ◌+◌, ◌<◌, ◌≤◌, ◌⊎◌, Some}
use Rattle.loop_witness.specs.Marks.{Counted, IsLatest}
use Rattle.program_model.specs.declared.standing.Stand.{Stand}
use Rattle.program_model.specs.declared.standing.Stand.TheVariants as stands
use Rattle.program_model.specs.Semantics.{Semantics}
use Rattle.program_model.specs.Program.{Program}
use Rattle.program_model.specs.Run.{Config, at}
use Rattle.program_model.specs.Standing.{IsNoticed, NothingBefore, IsStanding}
use Rattle.interpreter.specs.declared.configuration.Configuration.{Configuration}
use Rattle.interpreter.specs.declared.run.Run.{Run}

-- the configuration that a run holds
abbrev pub config_of : {C : Type 0} → Configuration C → Config C
config_of here = record { line = here.line; value = here.value }

-- where the mark is: at the first step of the repetition that is noticed after the steps made; or no repetition is noticed
-- there, and the mark is at the greatest step of the form 2^k - 1 that was made
abbrev pub IsMarkOf : {C : Type 0} → Semantics C → Program → ℕ → Counted → Type 0
IsMarkOf m q t marks =
    IsNoticed m q t marks.mark marks.steps
    ⊎ (((from : ℕ) → IsNoticed m q t from marks.steps → ⊥) × IsLatest marks)

-- the run is that of a program on an instance after s steps: it holds the instance, the configuration there and the number s,
-- and a mark with the configuration at the mark's step; and no repetition is noticed at a lesser step
pub record StandsFor {C : Type 0} (m : Semantics C) (q : Program) (t s : ℕ) (run : Run C) : Type 0 where
  pub instance : run.instance ≡ t
  pub steps : run.marks.steps ≡ s
  pub here : at m q t s ≡ Some (config_of run.here)
  pub marked : at m q t run.marks.mark ≡ Some (config_of run.marked)
  pub mark : IsMarkOf m q t run.marks
  pub unnoticed : (from to : ℕ) → to < s → IsNoticed m q t from to → ⊥

-- the run is one of a program: on its instance, which the machine has, it stands for its step; and its values, here and at the
-- mark, are ones of that instance
pub record IsRunOf {C : Type 0} (m : Semantics C) (belongs : ℕ → C → Type 0) (q : Program) (run : Run C) : Type 0 where
  pub within : run.instance < m.instances
  pub stands : StandsFor m q run.instance run.marks.steps run
  pub here_belongs : belongs run.instance run.here.value
  pub marked_belongs : belongs run.instance run.marked.value

-- what is told of a program's run on an instance that was advanced from one step to another, under a quota and a limit: that
-- the quota is used, where as many steps were made and the run stands nowhere yet; else its standing
abbrev pub IsTold : {C : Type 0} → Semantics C → Program → ℕ → ℕ → ℕ → ℕ → ℕ → Stand → Type 0
IsTold m q t quota limit from to stands.QuotaUsed = (to ≡ from + quota) × (to < limit) × NothingBefore m q t (to + 1)
IsTold m q t quota limit from to stand = (to ≤ from + quota) × IsStanding m q t limit to stand
