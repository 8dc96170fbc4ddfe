-- The judgement on a partial program, from where its runs stand.
use Rattle.std.specs.Prelude.{◌≡◌, ◌⊎◌, ℕ, ◌+◌, ◌==◌, List, All, map, Some, None, if◌then◌else◌}
use Rattle.program_model.specs.declared.standing.Stand.{Stand}
use Rattle.program_model.specs.declared.standing.Stand.TheVariants as stands
use Rattle.program_model.specs.declared.outcome.RunOutcome.{RunOutcome}
use Rattle.program_model.specs.declared.verdict.Verdict.TheVariants as verdicts
use Rattle.program_model.specs.Semantics.{Semantics}
use Rattle.program_model.specs.Program.{Program}
use Rattle.program_model.specs.Outcome.{AreOutcomes, ComesOut}
use Rattle.program_model.specs.Verdict.{IsVerdict}
use Rattle.evaluations.specs.declared.evaluation.Evaluation.{Evaluation}
use Rattle.evaluations.specs.declared.standing.Standing.{Standing}
use Rattle.evaluations.specs.Evaluations.{standing_of, key}
use Rattle.refutation_tree.specs.Accepted.{AreEndsFrom}
use Rattle.interpreter.specs.declared.run.Run.{Run}
use Rattle.run_turns.specs.Settling.{HasSettled}
use Rattle.judgement.specs.declared.judging.Judgement.{Judgement}
use Rattle.judgement.specs.declared.judging.Judgement.TheVariants as judgements

-- where a run stands that ended on the last line of a program of so many lines, or waits on another
abbrev pub run_standing : {C : Type 0} → Semantics C → ℕ → Run C → Standing
run_standing m lines run = record {
  missing = m.missing run.instance run.here.value;
  steps = run.marks.steps;
  waits = if run.here.line + 1 == lines then None else Some run.here.line;
}

-- the run ended with the goal met, or waits
abbrev pub IsSettled : Stand → Type 0
IsSettled stand = (stand ≡ stands.Ended) ⊎ ((line : ℕ) × (stand ≡ stands.Waits line))

-- this is where the program's run on an instance stands, which ended with the goal met, or waits
abbrev pub IsSettledOn : {C : Type 0} → Semantics C → Program → ℕ → ℕ → Standing → Type 0
IsSettledOn m q limit t standing = ComesOut m q limit t (λ x. IsSettled x.standing × (standing ≡ standing_of x))

-- the judgement on a program: the verdict on it; where it waits, the key that its runs' outcomes give; and where it is solved, the
-- steps after which its runs end
abbrev pub IsJudgement : {C : Type 0} → Semantics C → List Evaluation → Program → ℕ → Judgement → Type 0
IsJudgement m order q limit (judgements.Refused t cause) = IsVerdict m q limit (verdicts.Refused t cause)
IsJudgement m order q limit (judgements.AtLimit t) = IsVerdict m q limit (verdicts.AtLimit t)
IsJudgement m order q limit (judgements.Waiting line its_key) =
    IsVerdict m q limit (verdicts.Waiting line) × ((runs : List RunOutcome) × AreOutcomes m q limit runs × (its_key ≡ key order q (map standing_of runs)))
IsJudgement m order q limit (judgements.Solved ends) = IsVerdict m q limit verdicts.Solved × AreEndsFrom m q 0 ends.items

-- after a program was found to wait or to be solved, each of its runs has settled
abbrev pub HaveSettledIn : {C : Type 0} → Semantics C → Program → ℕ → List (Run C) → Judgement → Type 0
HaveSettledIn m q limit runs (judgements.Refused t cause) = Unit {0}
HaveSettledIn m q limit runs (judgements.AtLimit t) = Unit {0}
HaveSettledIn m q limit runs (judgements.Waiting line its_key) = All (HasSettled m q limit) runs
HaveSettledIn m q limit runs (judgements.Solved ends) = All (HasSettled m q limit) runs
