-- What turns do to the runs of a program, and what a round of turns comes to.
use Rattle.std.specs.Prelude.{◌≡◌, ℕ, ◌-◌, ◌<◌, ◌≤◌, List, Option, Some, None, length, sum_by, slice_get, take, Contains}
use Rattle.program_model.specs.declared.verdict.Cause.{Cause}
use Rattle.program_model.specs.declared.verdict.Verdict.{Verdict}
use Rattle.program_model.specs.declared.verdict.Verdict.TheVariants as verdicts
use Rattle.program_model.specs.Semantics.{Semantics}
use Rattle.program_model.specs.Program.{Program}
use Rattle.program_model.specs.Outcome.{ComesOut}
use Rattle.program_model.specs.Verdict.{cause_of, IsVerdictOver}
use Rattle.interpreter.specs.declared.run.Run.{Run}
use Rattle.interpreter.specs.Counts.{RaisedAtMost}
use Rattle.run_turns.specs.declared.round.Round.{Round}
use Rattle.run_turns.specs.declared.round.Round.TheVariants as rounds
use Rattle.run_turns.specs.Settling.{instances_of, HasInstance, AreRunsOf, HaveSettled, AreReached, operations_left, marks_left}

-- how many steps the runs could make up to their limit
abbrev pub steps_left : {C : Type 0} → ℕ → List (Run C) → ℕ
steps_left limit runs = sum_by (λ run. limit - run.marks.steps) runs

-- a count rose by at most as much as what was left of a work fell
abbrev pub IsPaid : ℕ → ℕ → ℕ → ℕ → Type 0
IsPaid left_old left_new old new = (left_new ≤ left_old) × RaisedAtMost (left_old - left_new) old new

-- runs of a program went on within a limit, and what they did was counted: operations and copies
pub record HaveGoneOn {C : Type 0} (m : Semantics C) (belongs : ℕ → C → Type 0) (q : Program) (limit : ℕ) (old new : List (Run C)) (acts_old acts_new copies_old copies_new : ℕ) : Type 0 where
  pub runs : AreRunsOf m belongs q limit new
  pub instances : instances_of new ≡ instances_of old
  pub steps : steps_left limit new ≤ steps_left limit old
  pub acts : (reached : ℕ → ℕ) → AreReached m q limit reached old → IsPaid (operations_left m q reached old) (operations_left m q reached new) acts_old acts_new
  pub copies : (reached : ℕ → ℕ) → AreReached m q limit reached old → IsPaid (marks_left reached old) (marks_left reached new) copies_old copies_new

-- the verdict on a program, where some of the instances are looked at and the runs on them stand and do not refute it
pub record IsJudged {C : Type 0} (m : Semantics C) (q : Program) (limit : ℕ) (Looked : ℕ → Type 0) (verdict : Verdict) : Type 0 where
  pub over : IsVerdictOver m q limit Looked verdict
  pub none_refutes : (t : ℕ) → Looked t → ComesOut m q limit t (λ x. cause_of x ≡ None)

-- the run at a place, on an instance, refutes the program for a cause
pub record IsRefutedAt {C : Type 0} (m : Semantics C) (q : Program) (limit : ℕ) (runs : List (Run C)) (place t : ℕ) (cause : Cause) : Type 0 where
  pub here : slice_get (instances_of runs) place ≡ Some t
  pub refutes : ComesOut m q limit t (λ x. cause_of x ≡ Some cause)

-- where runs went on and those before a place had their turn: some run made steps and stands nowhere yet; or those before the
-- place stand, and this is the verdict over them
abbrev pub IsSoFar : {C : Type 0} → Semantics C → Program → ℕ → List (Run C) → List (Run C) → ℕ → Option Verdict → Type 0
IsSoFar m q limit old new place None = steps_left limit new < steps_left limit old
IsSoFar m q limit old new place (Some verdict) =
    IsJudged m q limit (Contains (take place (instances_of old))) verdict × HaveSettled m q limit (take place new) verdict

-- what a round that led from some runs to others came to
abbrev pub IsRound : {C : Type 0} → Semantics C → Program → ℕ → List (Run C) → List (Run C) → Round → Type 0
IsRound m q limit old new (rounds.Refuted place t cause) = IsRefutedAt m q limit old place t cause
IsRound m q limit old new rounds.Unfinished = steps_left limit new < steps_left limit old
IsRound m q limit old new (rounds.Finished verdict) = IsJudged m q limit (HasInstance old) verdict × HaveSettled m q limit new verdict

-- the runs from a place on say no more of the verdict: there are none; or the one at the place refutes the program, and it is
-- refused by that one where no lesser one refutes it
abbrev pub IsRefusal : {C : Type 0} → Semantics C → Program → ℕ → List (Run C) → ℕ → Option Verdict → Type 0
IsRefusal m q limit runs place None = place ≡ length runs
IsRefusal m q limit runs place (Some (verdicts.Refused t cause)) = IsRefutedAt m q limit runs place t cause
IsRefusal m q limit runs place (Some (verdicts.AtLimit t)) = ⊥
IsRefusal m q limit runs place (Some (verdicts.Waiting line)) = ⊥
IsRefusal m q limit runs place (Some verdicts.Solved) = ⊥
