-- The verdict on a partial program, from where its runs stand.
use Rattle.std.specs.Prelude.{◌≡◌, ℕ, ◌<◌, ◌≤◌, Option, Some, None}
use Rattle.program_model.specs.declared.standing.Stand.{Stand}
use Rattle.program_model.specs.declared.standing.Stand.TheVariants as stands
use Rattle.program_model.specs.declared.outcome.RunOutcome.{RunOutcome}
use Rattle.program_model.specs.declared.verdict.Cause.{Cause}
use Rattle.program_model.specs.declared.verdict.Cause.TheVariants as causes
use Rattle.program_model.specs.declared.verdict.Verdict.{Verdict}
use Rattle.program_model.specs.declared.verdict.Verdict.TheVariants as verdicts
use Rattle.program_model.specs.Semantics.{Semantics}
use Rattle.program_model.specs.Program.{Program}
use Rattle.program_model.specs.Outcome.{ComesOut}

-- why a run that stands so after so many steps refutes its program, if it does: it ended with the goal unmet, or repeats
abbrev pub cause_by : ℕ → Stand → Option Cause
cause_by steps stands.Ended = None
cause_by steps stands.Unmet = Some (causes.Unmet steps)
cause_by steps (stands.Repeats from to) = Some (causes.Loops from to)
cause_by steps (stands.Waits line) = None
cause_by steps stands.AtLimit = None
cause_by steps stands.QuotaUsed = None

abbrev pub cause_of : RunOutcome → Option Cause
cause_of x = cause_by x.steps x.standing

-- the run ended with the goal met, or waits at a line of at most one
abbrev pub EndsOrWaits : ℕ → Stand → Type 0
EndsOrWaits most stands.Ended = Unit {0}
EndsOrWaits most stands.Unmet = ⊥
EndsOrWaits most (stands.Repeats from to) = ⊥
EndsOrWaits most (stands.Waits line) = line ≤ most
EndsOrWaits most stands.AtLimit = ⊥
EndsOrWaits most stands.QuotaUsed = ⊥

-- the verdict on a program, where some of the instances are looked at: it is refused by the least of them whose run refutes
-- it; else it is at the limit, by the least whose run is at its limit; else it waits at the greatest line where a run waits;
-- else it is solved
abbrev pub IsVerdictOver : {C : Type 0} → Semantics C → Program → ℕ → (ℕ → Type 0) → Verdict → Type 0
IsVerdictOver m q limit Looked (verdicts.Refused t cause) =
    Looked t × ComesOut m q limit t (λ x. cause_of x ≡ Some cause)
    × ((s : ℕ) → Looked s → s < t → ComesOut m q limit s (λ x. cause_of x ≡ None))
IsVerdictOver m q limit Looked (verdicts.AtLimit t) =
    Looked t × ComesOut m q limit t (λ x. x.standing ≡ stands.AtLimit)
    × ((s : ℕ) → Looked s → ComesOut m q limit s (λ x. cause_of x ≡ None))
    × ((s : ℕ) → Looked s → s < t → ComesOut m q limit s (λ x. ¬ (x.standing ≡ stands.AtLimit)))
IsVerdictOver m q limit Looked (verdicts.Waiting line) =
    ((t : ℕ) × Looked t × ComesOut m q limit t (λ x. x.standing ≡ stands.Waits line))
    × ((s : ℕ) → Looked s → ComesOut m q limit s (λ x. EndsOrWaits line x.standing))
IsVerdictOver m q limit Looked verdicts.Solved =
    (s : ℕ) → Looked s → ComesOut m q limit s (λ x. x.standing ≡ stands.Ended)

-- the verdict on a program, where all instances are looked at
abbrev pub IsVerdict : {C : Type 0} → Semantics C → Program → ℕ → Verdict → Type 0
IsVerdict m q limit verdict = IsVerdictOver m q limit (λ t. t < m.instances) verdict
