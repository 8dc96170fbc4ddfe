-- What the verdict on a partial program shows.
use Rattle.std.proofs.Common.{◌≡◌, ℕ, ◌<◌, ◌≤◌, Some, subst, arith}
use Rattle.std.proofs.lemmas.Option.{none-some, same_Some}
use Rattle.program_model.specs.declared.standing.Stand.{Stand}
use Rattle.program_model.specs.declared.standing.Stand.TheVariants as stands
use Rattle.program_model.specs.declared.verdict.Cause.{Cause}
use Rattle.program_model.specs.declared.verdict.Cause.TheVariants as causes
use Rattle.program_model.specs.declared.verdict.Verdict.TheVariants as verdicts
use Rattle.program_model.specs.Semantics.{Semantics}
use Rattle.program_model.specs.Program.{Program, IsOpen}
use Rattle.program_model.specs.Run.{Unmet, Loops}
use Rattle.program_model.specs.Standing.{IsStanding}
use Rattle.program_model.specs.Verdict.{cause_by, IsVerdict}

module _ {C : Type 0} (m : Semantics C) (q : Program) (limit : ℕ) where
  -- the run on an instance refutes the program for a cause
  abbrev pub IsRefutedBy : ℕ → Cause → Type 0
  IsRefutedBy t (causes.Unmet steps) = (steps ≤ limit) × Unmet m q t steps
  IsRefutedBy t (causes.Loops from to) = (to ≤ limit) × Loops m q t from to

  cause_shown : (t steps : ℕ) (standing : Stand) (cause : Cause) → IsStanding m q t limit steps standing → cause_by steps standing ≡ Some cause → IsRefutedBy t cause
  cause_shown t steps stands.Ended cause h e = absurd (none-some cause e)
  cause_shown t steps stands.Unmet cause h e = subst (IsRefutedBy t) (same_Some (causes.Unmet steps) cause e) (h.0, h.1)
  cause_shown t steps (stands.Repeats from to) cause h e =
      let same : to ≡ steps = h.1.0 in
      let few : steps ≤ limit = h.0 in
      subst (IsRefutedBy t) (same_Some (causes.Loops from to) cause e) (omega arith, h.1.1.noticeable.loops)
  cause_shown t steps (stands.Waits line) cause h e = absurd (none-some cause e)
  cause_shown t steps stands.AtLimit cause h e = absurd (none-some cause e)
  cause_shown t steps stands.QuotaUsed cause h e = absurd h

  pub refused_shown : (t : ℕ) (cause : Cause) → IsVerdict m q limit (verdicts.Refused t cause) → IsRefutedBy t cause
  refused_shown t cause h =
      let x = h.1.outcome in
      let stands_so : IsStanding m q t limit x.steps x.standing = subst (λ i. IsStanding m q i limit x.steps x.standing) h.1.instance h.1.is_outcome.stands in
      cause_shown t x.steps x.standing cause stands_so h.1.such

  -- the line at which a program waits is undefined
  pub waiting_is_open : (line : ℕ) → IsVerdict m q limit (verdicts.Waiting line) → IsOpen q line
  waiting_is_open line h =
      let it = h.0.2 in
      let waits : IsStanding m q it.outcome.instance limit it.outcome.steps (stands.Waits line) = subst (IsStanding m q it.outcome.instance limit it.outcome.steps) it.such it.is_outcome.stands in
      waits.1.is_open

  -- the run on each instance of a solved program ends with the goal met
  pub ended_at : (t : ℕ) → IsVerdict m q limit verdicts.Solved → t < m.instances → (steps : ℕ) × IsStanding m q t limit steps stands.Ended
  ended_at t h below =
      let it = h t below in
      (it.outcome.steps, subst (IsStanding m q t limit it.outcome.steps) it.such (subst (λ i. IsStanding m q i limit it.outcome.steps it.outcome.standing) it.instance it.is_outcome.stands))
