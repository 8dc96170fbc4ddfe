-- The verdict on a partial program, as it is come to run after run.
use Rattle.std.proofs.Common.{◌≡◌, ℕ, ◌<◌, ◌≤◌, ◌⊎◌, Some, None, max, refl, sym, ◌∙◌, ap, subst, inl, inr, arith}
use Rattle.std.proofs.lemmas.Option.{none-some, same_Some}
use Rattle.std.proofs.lemmas.Bool.{cases_lt}
use Rattle.program_model.specs.declared.standing.Stand.{Stand}
use Rattle.program_model.specs.declared.standing.Stand.TheVariants as stands
use Rattle.program_model.specs.declared.outcome.RunOutcome.{RunOutcome}
use Rattle.program_model.specs.declared.verdict.Cause.{Cause}
use Rattle.program_model.specs.declared.verdict.Cause.TheVariants as causes
use Rattle.program_model.specs.declared.verdict.Verdict.{Verdict}
use Rattle.program_model.specs.declared.verdict.Verdict.TheVariants as verdicts
use Rattle.program_model.specs.Semantics.{Semantics}
use Rattle.program_model.specs.Program.{Program}
use Rattle.program_model.specs.Outcome.{IsOutcome, ComesOut}
use Rattle.program_model.specs.Verdict.{cause_by, cause_of, EndsOrWaits, IsVerdictOver}
use Rattle.run_turns.specs.Inner.Joining.{with_waiting, with_limited, joined}
use Rattle.run_turns.specs.Inner.Rounds.{IsJudged}

more_waits : (here most : ℕ) (standing : Stand) → EndsOrWaits here standing → here ≤ most → EndsOrWaits most standing
more_waits here most stands.Ended h l = tt
more_waits here most stands.Unmet h l = h
more_waits here most (stands.Repeats from to) h l = h
more_waits here most (stands.Waits line) h l = let below : line ≤ here = h in omega arith
more_waits here most stands.AtLimit h l = h
more_waits here most stands.QuotaUsed h l = h

module _ {C : Type 0} (m : Semantics C) (q : Program) (limit : ℕ) where
  weaker : (s : ℕ) (P Q : RunOutcome → Type 0) → ((x : RunOutcome) → P x → Q x) → ComesOut m q limit s P → ComesOut m q limit s Q
  weaker s P Q f h = record { outcome = h.outcome; instance = h.instance; is_outcome = h.is_outcome; such = f h.outcome h.such }

  -- where no instance is looked at, the program is solved
  pub judged_none : (Looked : ℕ → Type 0) → ((s : ℕ) → Looked s → ⊥) → IsJudged m q limit Looked verdicts.Solved
  judged_none Looked none = record { over = λ s l. absurd (none s l); none_refutes = λ s l. absurd (none s l) }

  -- a greater instance is looked at too, and the run on it stands and does not refute the program
  module _ (Looked After : ℕ → Type 0) (t : ℕ) (below : (s : ℕ) → Looked s → s < t) (kept : (s : ℕ) → Looked s → After s) (here : After t) (only : (s : ℕ) → After s → Looked s ⊎ (t ≡ s))
      (x : RunOutcome) (instance : x.instance ≡ t) (outcome : IsOutcome m q limit x) (unrefuted : cause_of x ≡ None) where
    comes : (P : RunOutcome → Type 0) → P x → ComesOut m q limit t P
    comes P p = record { outcome = x; instance = instance; is_outcome = outcome; such = p }

    one_more : (P : RunOutcome → Type 0) → ((s : ℕ) → Looked s → ComesOut m q limit s P) → P x → (s : ℕ) → After s → ComesOut m q limit s P
    one_more P before p s l = elim (only s l) [
      | inl h ↦ before s h
      | inr same ↦ subst (λ i. ComesOut m q limit i P) same (comes P p)
    ]

    -- a property of the outcomes on lesser instances than one that was looked at holds on
    still : (P : RunOutcome → Type 0) (r : ℕ) → Looked r → ((s : ℕ) → Looked s → s < r → ComesOut m q limit s P) → (s : ℕ) → After s → s < r → ComesOut m q limit s P
    still P r looked before s l less = elim (only s l) [
      | inl h ↦ before s h less
      | inr same ↦ let above = below r looked in absurd (omega arith)
    ]

    refused_stays : (s : ℕ) (cause : Cause) → IsVerdictOver m q limit Looked (verdicts.Refused s cause) → IsVerdictOver m q limit After (verdicts.Refused s cause)
    refused_stays s cause h = (kept s h.0, h.1, still (λ y. cause_of y ≡ None) s h.0 h.2)

    limited_stays : (s : ℕ) → IsVerdictOver m q limit Looked (verdicts.AtLimit s) → IsVerdictOver m q limit After (verdicts.AtLimit s)
    limited_stays s h = (
      kept s h.0,
      h.1,
      one_more (λ y. cause_of y ≡ None) h.2 unrefuted,
      still (λ y. ¬ (y.standing ≡ stands.AtLimit)) s h.0 h.3,
    )

    ended_more : x.standing ≡ stands.Ended → (verdict : Verdict) → IsVerdictOver m q limit Looked verdict → IsVerdictOver m q limit After verdict
    ended_more e (verdicts.Refused s cause) h = refused_stays s cause h
    ended_more e (verdicts.AtLimit s) h = limited_stays s h
    ended_more e (verdicts.Waiting line) h =
        ((h.0.0, kept h.0.0 h.0.1, h.0.2), one_more (λ y. EndsOrWaits line y.standing) h.1 (subst (EndsOrWaits line) (sym e) tt))
    ended_more e verdicts.Solved h = one_more (λ y. y.standing ≡ stands.Ended) h e

    waits_with : (line other : ℕ) → x.standing ≡ stands.Waits line → IsVerdictOver m q limit Looked (verdicts.Waiting other) → IsVerdictOver m q limit After (verdicts.Waiting (max line other))
    waits_with line other e h =
        let all = one_more (λ y. EndsOrWaits (max line other) y.standing)
        (λ s l. weaker s (λ y. EndsOrWaits other y.standing) (λ y. EndsOrWaits (max line other) y.standing) (λ y k. more_waits other (max line other) y.standing k (omega arith)) (h.1 s l))
        (subst (EndsOrWaits (max line other)) (sym e) (let least : line ≤ max line other = omega arith in least)) in
        elim (cases_lt other line) [
          | inl l ↦ ((t, here, comes (λ y. y.standing ≡ stands.Waits (max line other)) (let same : line ≡ max line other = omega arith in e ∙ ap stands.Waits same)), all)
          | inr l ↦ ((h.0.0, kept h.0.0 h.0.1, weaker h.0.0 (λ y. y.standing ≡ stands.Waits other) (λ y. y.standing ≡ stands.Waits (max line other)) (λ y k. let same : other ≡ max line other = omega arith in k ∙ ap stands.Waits same) h.0.2), all)
        ]

    waiting_more : (line : ℕ) → x.standing ≡ stands.Waits line → (verdict : Verdict) → IsVerdictOver m q limit Looked verdict → IsVerdictOver m q limit After (with_waiting line verdict)
    waiting_more line e (verdicts.Refused s cause) h = refused_stays s cause h
    waiting_more line e (verdicts.AtLimit s) h = limited_stays s h
    waiting_more line e (verdicts.Waiting other) h = waits_with line other e h
    waiting_more line e verdicts.Solved h = (
      (t, here, comes (λ y. y.standing ≡ stands.Waits line) e),
      one_more (λ y. EndsOrWaits line y.standing)
          (λ s l. weaker s (λ y. y.standing ≡ stands.Ended) (λ y. EndsOrWaits line y.standing) (λ y k. subst (EndsOrWaits line) (sym k) tt) (h s l))
          (subst (EndsOrWaits line) (sym e) (let least : line ≤ line = omega arith in least)),
    )

    -- where no lesser run is at its limit, this one is the first
    first_limited : x.standing ≡ stands.AtLimit → ((s : ℕ) → Looked s → ComesOut m q limit s (λ y. cause_of y ≡ None)) → ((s : ℕ) → Looked s → ComesOut m q limit s (λ y. ¬ (y.standing ≡ stands.AtLimit))) → IsVerdictOver m q limit After (verdicts.AtLimit t)
    first_limited e unrefuting before = (
      here,
      comes (λ y. y.standing ≡ stands.AtLimit) e,
      one_more (λ y. cause_of y ≡ None) unrefuting unrefuted,
      λ s l less. elim (only s l) [ inl h ↦ before s h | inr same ↦ absurd (omega arith) ],
    )

    limited_more : x.standing ≡ stands.AtLimit → (verdict : Verdict) → IsJudged m q limit Looked verdict → IsVerdictOver m q limit After (with_limited t verdict)
    limited_more e (verdicts.Refused s cause) h = refused_stays s cause h.over
    limited_more e (verdicts.AtLimit s) h = limited_stays s h.over
    limited_more e (verdicts.Waiting line) h =
        first_limited e h.none_refutes
        (λ s l. weaker s (λ y. EndsOrWaits line y.standing) (λ y. ¬ (y.standing ≡ stands.AtLimit)) (λ y k at. subst (EndsOrWaits line) at k) (h.over.1 s l))
    limited_more e verdicts.Solved h =
        first_limited e h.none_refutes
        (λ s l. weaker s (λ y. y.standing ≡ stands.Ended) (λ y. ¬ (y.standing ≡ stands.AtLimit)) (λ y k at. let no : stands.Ended ≡ stands.AtLimit = sym k ∙ at in cc) (h.over s l))

    joined_more : (standing : Stand) → x.standing ≡ standing → (verdict after : Verdict) → IsJudged m q limit Looked verdict → joined t standing (Some verdict) ≡ Some after → IsVerdictOver m q limit After after
    joined_more stands.Ended e verdict after h is = subst (IsVerdictOver m q limit After) (same_Some verdict after is) (ended_more e verdict h.over)
    joined_more stands.Unmet e verdict after h is = absurd (none-some (causes.Unmet x.steps) (sym (ap (cause_by x.steps) (sym e) ∙ unrefuted)))
    joined_more (stands.Repeats from to) e verdict after h is = absurd (none-some (causes.Loops from to) (sym (ap (cause_by x.steps) (sym e) ∙ unrefuted)))
    joined_more (stands.Waits line) e verdict after h is = subst (IsVerdictOver m q limit After) (same_Some (with_waiting line verdict) after is) (waiting_more line e verdict h.over)
    joined_more stands.AtLimit e verdict after h is = subst (IsVerdictOver m q limit After) (same_Some (with_limited t verdict) after is) (limited_more e verdict h)
    joined_more stands.QuotaUsed e verdict after h is = absurd (none-some after is)

    pub judged_more : (verdict after : Verdict) → IsJudged m q limit Looked verdict → joined t x.standing (Some verdict) ≡ Some after → IsJudged m q limit After after
    judged_more verdict after h is = record {
      over = joined_more x.standing refl verdict after h is;
      none_refutes = one_more (λ y. cause_of y ≡ None) h.none_refutes unrefuted;
    }

  -- the first run that refutes the program decides, however many on greater instances there are
  pub refused_by : (Looked : ℕ → Type 0) (t : ℕ) (cause : Cause) → Looked t → ComesOut m q limit t (λ x. cause_of x ≡ Some cause) → ((s : ℕ) → Looked s → s < t → ComesOut m q limit s (λ x. cause_of x ≡ None)) → IsVerdictOver m q limit Looked (verdicts.Refused t cause)
  refused_by Looked t cause looked refutes before = (looked, refutes, before)
