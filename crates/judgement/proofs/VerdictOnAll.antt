-- The verdict on all instances, from the verdict on those of some runs, where the runs on all others ended or wait.
use Rattle.std.proofs.Common.{◌≡◌, ◌⊎◌, ℕ, ◌<◌, List, Option, Some, None, sym, ◌∙◌, ap, subst, inl, inr}
use Rattle.program_model.specs.declared.standing.Stand.{Stand}
use Rattle.program_model.specs.declared.standing.Stand.TheVariants as stands
use Rattle.program_model.specs.declared.outcome.RunOutcome.{RunOutcome}
use Rattle.program_model.specs.declared.verdict.Cause.{Cause}
use Rattle.program_model.specs.declared.verdict.Verdict.TheVariants as verdicts
use Rattle.program_model.specs.Semantics.{Semantics}
use Rattle.program_model.specs.Program.{Program}
use Rattle.program_model.specs.Outcome.{ComesOut}
use Rattle.program_model.specs.Verdict.{cause_by, cause_of, IsVerdictOver, IsVerdict}
use Rattle.std.specs.Prelude.{slice_get, IsSomeAnd}
use Rattle.evaluations.specs.declared.standing.Standing.{Standing}
use Rattle.judgement.specs.Judging.{IsSettled, IsSettledOn}

-- a run that ended with the goal met or waits does not refute its program
unrefuting : (steps : ℕ) (stand : Stand) → IsSettled stand → cause_by steps stand ≡ None
unrefuting steps stand h = elim h [ inl e ↦ ap (cause_by steps) e | inr waits ↦ ap (cause_by steps) waits.1 ]

-- and is not at its limit
unlimited : (stand : Stand) → IsSettled stand → ¬ (stand ≡ stands.AtLimit)
unlimited stand h limited = elim h [
  | inl e ↦ let no : stands.Ended ≡ stands.AtLimit = sym e ∙ limited in cc
  | inr waits ↦ let no : stands.Waits waits.0 ≡ stands.AtLimit = sym waits.1 ∙ limited in cc
]

module _ {C : Type 0} (m : Semantics C) (q : Program) (limit : ℕ) (Looked : ℕ → Type 0) (standings : List Standing)
    (known : (t : ℕ) → t < m.instances → Looked t ⊎ IsSomeAnd (slice_get standings t) (IsSettledOn m q limit t)) where
  known_so : (P : RunOutcome → Type 0) → ((x : RunOutcome) → IsSettled x.standing → P x) → (t : ℕ) (slot : Option Standing) → IsSomeAnd slot (IsSettledOn m q limit t) → ComesOut m q limit t P
  known_so P f t None h = absurd h
  known_so P f t (Some standing) h = record { outcome = h.outcome; instance = h.instance; is_outcome = h.is_outcome; such = f h.outcome h.such.0 }

  unrefuted : (t : ℕ) → IsSomeAnd (slice_get standings t) (IsSettledOn m q limit t) → ComesOut m q limit t (λ x. cause_of x ≡ None)
  unrefuted t h = known_so (λ x. cause_of x ≡ None) (λ x settled. unrefuting x.steps x.standing settled) t (slice_get standings t) h

  within : (t : ℕ) (P : RunOutcome → Type 0) → ComesOut m q limit t P → t < m.instances
  within t P h = subst (λ i. i < m.instances) h.instance h.is_outcome.within

  pub refused_on_all : (t : ℕ) (cause : Cause) → IsVerdictOver m q limit Looked (verdicts.Refused t cause) → IsVerdict m q limit (verdicts.Refused t cause)
  refused_on_all t cause h = (
    within t (λ x. cause_of x ≡ Some cause) h.1,
    h.1,
    λ s below less. elim (known s below) [ inl looked ↦ h.2 s looked less | inr settled ↦ unrefuted s settled ],
  )

  pub limited_on_all : (t : ℕ) → IsVerdictOver m q limit Looked (verdicts.AtLimit t) → IsVerdict m q limit (verdicts.AtLimit t)
  limited_on_all t h = (
    within t (λ x. x.standing ≡ stands.AtLimit) h.1,
    h.1,
    λ s below. elim (known s below) [ inl looked ↦ h.2 s looked | inr settled ↦ unrefuted s settled ],
    λ s below less. elim (known s below) [
      | inl looked ↦ h.3 s looked less
      | inr settled ↦ known_so (λ x. ¬ (x.standing ≡ stands.AtLimit)) (λ x here. unlimited x.standing here) s (slice_get standings s) settled
    ],
  )
