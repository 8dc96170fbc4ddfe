-- There is one verdict on a partial program.
use Rattle.std.proofs.Common.{◌≡◌, ℕ, ◌≤◌, Some, None, refl, sym, ◌∙◌, ap, ap₂, subst, inl, inr, arith}
use Rattle.std.proofs.lemmas.Option.{none-some, same_Some}
use Rattle.std.proofs.lemmas.Bool.{cases_order}
use Rattle.program_model.specs.declared.standing.Stand.{Stand}
use Rattle.program_model.specs.declared.standing.Stand.TheVariants as stands
use Rattle.program_model.specs.declared.outcome.RunOutcome.{RunOutcome}
use Rattle.program_model.specs.declared.verdict.Cause.{Cause}
use Rattle.program_model.specs.declared.verdict.Verdict.{Verdict}
use Rattle.program_model.specs.declared.verdict.Verdict.TheVariants as verdicts
use Rattle.program_model.specs.Semantics.{Semantics}
use Rattle.program_model.specs.Program.{Program, IsPartial}
use Rattle.program_model.specs.Outcome.{ComesOut}
use Rattle.program_model.specs.Verdict.{cause_by, cause_of, EndsOrWaits, IsVerdictOver}
use Rattle.program_model.proofs.Outcomes.{both_of}

-- ---- what a standing excludes

refuting_goes_on : (most steps : ℕ) (standing : Stand) (cause : Cause) → cause_by steps standing ≡ Some cause → EndsOrWaits most standing → ⊥
refuting_goes_on most steps stands.Ended cause e h = none-some cause e
refuting_goes_on most steps stands.Unmet cause e h = h
refuting_goes_on most steps (stands.Repeats from to) cause e h = h
refuting_goes_on most steps (stands.Waits line) cause e h = none-some cause e
refuting_goes_on most steps stands.AtLimit cause e h = h
refuting_goes_on most steps stands.QuotaUsed cause e h = h

module _ {C : Type 0} (m : Semantics C) (ops : ℕ) (q : Program) (limit : ℕ) (partial : IsPartial ops q) where
  -- the outcome of one run is not both of two that exclude each other
  clash : (t : ℕ) (P Q : RunOutcome → Type 0) → ((x : RunOutcome) → P x → Q x → ⊥) → ComesOut m q limit t P → ComesOut m q limit t Q → ⊥
  clash t P Q apart h k = let both = both_of m ops q limit partial t P Q h k in apart both.outcome both.one both.other

  module _ (Looked : ℕ → Type 0) where
    refused_twice : (t u : ℕ) (c d : Cause) → IsVerdictOver m q limit Looked (verdicts.Refused t c) → IsVerdictOver m q limit Looked (verdicts.Refused u d) → verdicts.Refused t c ≡ verdicts.Refused u d
    refused_twice t u c d h k = elim (cases_order t u) [
      | inl e ↦
          let other : ComesOut m q limit t (λ x. cause_of x ≡ Some d) = subst (λ i. ComesOut m q limit i (λ x. cause_of x ≡ Some d)) (sym e) k.1 in
          let both = both_of m ops q limit partial t (λ x. cause_of x ≡ Some c) (λ x. cause_of x ≡ Some d) h.1 other in
          ap₂ verdicts.Refused e (same_Some c d (sym both.one ∙ both.other))
      | inr o ↦ elim o [
        | inl l ↦ absurd (clash t (λ x. cause_of x ≡ Some c) (λ x. cause_of x ≡ None) (λ x p r. none-some c (sym r ∙ p)) h.1 (k.2 t h.0 l))
        | inr l ↦ absurd (clash u (λ x. cause_of x ≡ Some d) (λ x. cause_of x ≡ None) (λ x p r. none-some d (sym r ∙ p)) k.1 (h.2 u k.0 l))
      ]
    ]

    refused_or_limited : (t u : ℕ) (c : Cause) → IsVerdictOver m q limit Looked (verdicts.Refused t c) → IsVerdictOver m q limit Looked (verdicts.AtLimit u) → ⊥
    refused_or_limited t u c h k = clash t (λ x. cause_of x ≡ Some c) (λ x. cause_of x ≡ None) (λ x p r. none-some c (sym r ∙ p)) h.1 (k.2 t h.0)

    refused_or_waiting : (t line : ℕ) (c : Cause) → IsVerdictOver m q limit Looked (verdicts.Refused t c) → IsVerdictOver m q limit Looked (verdicts.Waiting line) → ⊥
    refused_or_waiting t line c h k = clash t (λ x. cause_of x ≡ Some c) (λ x. EndsOrWaits line x.standing) (λ x p r. refuting_goes_on line x.steps x.standing c p r) h.1 (k.1 t h.0)

    refused_or_solved : (t : ℕ) (c : Cause) → IsVerdictOver m q limit Looked (verdicts.Refused t c) → IsVerdictOver m q limit Looked verdicts.Solved → ⊥
    refused_or_solved t c h k = clash t (λ x. cause_of x ≡ Some c) (λ x. x.standing ≡ stands.Ended) (λ x p r. refuting_goes_on 0 x.steps x.standing c p (subst (EndsOrWaits 0) (sym r) tt)) h.1 (k t h.0)

    limited_twice : (t u : ℕ) → IsVerdictOver m q limit Looked (verdicts.AtLimit t) → IsVerdictOver m q limit Looked (verdicts.AtLimit u) → verdicts.AtLimit t ≡ verdicts.AtLimit u
    limited_twice t u h k = elim (cases_order t u) [
      | inl e ↦ ap verdicts.AtLimit e
      | inr o ↦ elim o [
        | inl l ↦ absurd (clash t (λ x. x.standing ≡ stands.AtLimit) (λ x. ¬ (x.standing ≡ stands.AtLimit)) (λ x p r. r p) h.1 (k.3 t h.0 l))
        | inr l ↦ absurd (clash u (λ x. x.standing ≡ stands.AtLimit) (λ x. ¬ (x.standing ≡ stands.AtLimit)) (λ x p r. r p) k.1 (h.3 u k.0 l))
      ]
    ]

    limited_or_waiting : (t line : ℕ) → IsVerdictOver m q limit Looked (verdicts.AtLimit t) → IsVerdictOver m q limit Looked (verdicts.Waiting line) → ⊥
    limited_or_waiting t line h k = clash t (λ x. x.standing ≡ stands.AtLimit) (λ x. EndsOrWaits line x.standing) (λ x p r. subst (EndsOrWaits line) p r) h.1 (k.1 t h.0)

    limited_or_solved : (t : ℕ) → IsVerdictOver m q limit Looked (verdicts.AtLimit t) → IsVerdictOver m q limit Looked verdicts.Solved → ⊥
    limited_or_solved t h k = clash t (λ x. x.standing ≡ stands.AtLimit) (λ x. x.standing ≡ stands.Ended) (λ x p r. let no : stands.AtLimit ≡ stands.Ended = sym p ∙ r in cc) h.1 (k t h.0)

    waits_below : (here most : ℕ) → IsVerdictOver m q limit Looked (verdicts.Waiting here) → IsVerdictOver m q limit Looked (verdicts.Waiting most) → here ≤ most
    waits_below here most h k =
        let both = both_of m ops q limit partial h.0.0 (λ x. x.standing ≡ stands.Waits here) (λ x. EndsOrWaits most x.standing) h.0.2 (k.1 h.0.0 h.0.1) in
        subst (EndsOrWaits most) both.one both.other

    waiting_or_solved : (line : ℕ) → IsVerdictOver m q limit Looked (verdicts.Waiting line) → IsVerdictOver m q limit Looked verdicts.Solved → ⊥
    waiting_or_solved line h k = clash h.0.0 (λ x. x.standing ≡ stands.Waits line) (λ x. x.standing ≡ stands.Ended) (λ x p r. let no : stands.Waits line ≡ stands.Ended = sym p ∙ r in cc) h.0.2 (k h.0.0 h.0.1)

    pub same_verdict : (v w : Verdict) → IsVerdictOver m q limit Looked v → IsVerdictOver m q limit Looked w → v ≡ w
    same_verdict (verdicts.Refused t c) (verdicts.Refused u d) h k = refused_twice t u c d h k
    same_verdict (verdicts.Refused t c) (verdicts.AtLimit u) h k = absurd (refused_or_limited t u c h k)
    same_verdict (verdicts.Refused t c) (verdicts.Waiting line) h k = absurd (refused_or_waiting t line c h k)
    same_verdict (verdicts.Refused t c) verdicts.Solved h k = absurd (refused_or_solved t c h k)
    same_verdict (verdicts.AtLimit t) (verdicts.Refused u d) h k = absurd (refused_or_limited u t d k h)
    same_verdict (verdicts.AtLimit t) (verdicts.AtLimit u) h k = limited_twice t u h k
    same_verdict (verdicts.AtLimit t) (verdicts.Waiting line) h k = absurd (limited_or_waiting t line h k)
    same_verdict (verdicts.AtLimit t) verdicts.Solved h k = absurd (limited_or_solved t h k)
    same_verdict (verdicts.Waiting line) (verdicts.Refused u d) h k = absurd (refused_or_waiting u line d k h)
    same_verdict (verdicts.Waiting line) (verdicts.AtLimit u) h k = absurd (limited_or_waiting u line k h)
    same_verdict (verdicts.Waiting line) (verdicts.Waiting other) h k =
        let below = waits_below line other h k in
        let above = waits_below other line k h in
        ap verdicts.Waiting (omega arith)
    same_verdict (verdicts.Waiting line) verdicts.Solved h k = absurd (waiting_or_solved line h k)
    same_verdict verdicts.Solved (verdicts.Refused u d) h k = absurd (refused_or_solved u d k h)
    same_verdict verdicts.Solved (verdicts.AtLimit u) h k = absurd (limited_or_solved u k h)
    same_verdict verdicts.Solved (verdicts.Waiting line) h k = absurd (waiting_or_solved line k h)
    same_verdict verdicts.Solved verdicts.Solved h k = refl
