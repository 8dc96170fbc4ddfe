-- Runs of one partial program that are brought to a verdict: which they are, where they stand then, and what they do on the way.
use Rattle.std.specs.Prelude.{ℕ, ◌-◌, ◌<◌, ◌≤◌, ◌⊎◌, List, map, sum_by, All, AllPairs, Contains}
use Rattle.program_model.specs.declared.standing.Stand.{Stand}
use Rattle.program_model.specs.declared.standing.Stand.TheVariants as stands
use Rattle.program_model.specs.declared.verdict.Verdict.{Verdict}
use Rattle.program_model.specs.declared.verdict.Verdict.TheVariants as verdicts
use Rattle.program_model.specs.Semantics.{Semantics}
use Rattle.program_model.specs.Program.{Program}
use Rattle.program_model.specs.Standing.{IsStanding}
use Rattle.program_model.specs.Counts.{operations_made}
use Rattle.interpreter.specs.declared.run.Run.{Run}
use Rattle.interpreter.specs.Counts.{marks_between}
use Rattle.interpreter.specs.Runs.{IsRunOf}

-- the instances of runs, in order
abbrev pub instances_of : {C : Type 0} → List (Run C) → List ℕ
instances_of runs = map (λ run. run.instance) runs

-- one of the runs is on this instance
abbrev pub HasInstance : {C : Type 0} → List (Run C) → ℕ → Type 0
HasInstance runs t = Contains (instances_of runs) t

-- the runs are in rising order of their instances
abbrev pub AreRising : {C : Type 0} → List (Run C) → Type 0
AreRising runs = AllPairs (λ s t. s < t) (instances_of runs)

-- each of the runs is one of the program, at a step that is not past the limit
abbrev pub AreRunsOf : {C : Type 0} → Semantics C → (ℕ → C → Type 0) → Program → ℕ → List (Run C) → Type 0
AreRunsOf m belongs q limit runs = All (λ run. IsRunOf m belongs q run × (run.marks.steps ≤ limit)) runs

-- the run ended with the goal met, or waits: that is its standing, and it is reached at its step
abbrev pub HasSettled : {C : Type 0} → Semantics C → Program → ℕ → Run C → Type 0
HasSettled m q limit run =
    IsStanding m q run.instance limit run.marks.steps stands.Ended
    ⊎ ((line : ℕ) × IsStanding m q run.instance limit run.marks.steps (stands.Waits line))

-- after a program was found to wait or to be solved, each of its runs has settled; after another verdict some may stand anywhere
abbrev pub HaveSettled : {C : Type 0} → Semantics C → Program → ℕ → List (Run C) → Verdict → Type 0
HaveSettled m q limit runs (verdicts.Refused t cause) = Unit {0}
HaveSettled m q limit runs (verdicts.AtLimit t) = Unit {0}
HaveSettled m q limit runs (verdicts.Waiting line) = All (HasSettled m q limit) runs
HaveSettled m q limit runs verdicts.Solved = All (HasSettled m q limit) runs

-- on the instance of each run, the standing is reached at the step that is given for the instance
abbrev pub AreReached : {C : Type 0} → Semantics C → Program → ℕ → (ℕ → ℕ) → List (Run C) → Type 0
AreReached m q limit reached runs = (t : ℕ) → HasInstance runs t → (stand : Stand) × IsStanding m q t limit (reached t) stand

-- how many operations the runs make from where they stand up to the steps that are given for their instances
abbrev pub operations_left : {C : Type 0} → Semantics C → Program → (ℕ → ℕ) → List (Run C) → ℕ
operations_left m q reached runs =
    sum_by (λ run. operations_made m q run.instance (reached run.instance) - operations_made m q run.instance run.marks.steps) runs

-- how many mark steps the runs come to, after where they stand and up to the steps that are given for their instances
abbrev pub marks_left : {C : Type 0} → (ℕ → ℕ) → List (Run C) → ℕ
marks_left reached runs = sum_by (λ run. marks_between run.marks.steps (reached run.instance)) runs
