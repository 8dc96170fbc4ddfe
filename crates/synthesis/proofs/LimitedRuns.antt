-- A run at its limit comes to no configuration twice in the first third of its steps: else the repetition would be noticed.
use Rattle.std.proofs.Common.{◌≡◌, ℕ, ◌≤◌, Option, Some, None, refl, sym, ◌∙◌, subst, arith}
use Rattle.std.specs.Prelude.{IsSome}
use Rattle.std.proofs.lemmas.Bool.{false≢true}
use Rattle.program_model.specs.declared.standing.Stand.TheVariants as stands
use Rattle.program_model.specs.declared.verdict.Verdict.TheVariants as verdicts
use Rattle.program_model.specs.Semantics.{Semantics}
use Rattle.program_model.specs.Program.{Program}
use Rattle.program_model.specs.Run.{Config, at}
use Rattle.program_model.specs.Standing.{IsStanding}
use Rattle.program_model.specs.Verdict.{IsVerdict}
use Rattle.program_model.proofs.Runs.{no_later}
use Rattle.interpreter.proofs.InTime.{limited_repeats}
use Rattle.synthesis.specs.Spent.{RunsOn}

module _ {C : Type 0} (m : Semantics C) (q : Program) (t limit : ℕ) where
  -- a run that makes so many steps makes each of them
  each_step : (last : Config C) → at m q t limit ≡ Some last → (k : ℕ) → k ≤ limit → (o : Option (Config C)) → at m q t k ≡ o → (config : Config C) × (at m q t k ≡ Some config)
  each_step last comes k within None is = absurd (no_later m q t k limit last is within comes)
  each_step last comes k within (Some config) is = (config, is)

  some_config : (o : Option (Config C)) → at m q t limit ≡ o → IsSome o → (config : Config C) × (at m q t limit ≡ Some config)
  some_config None is some = absurd (false≢true some)
  some_config (Some config) is some = (config, is)

  -- a run at its limit made so many steps
  pub limited_runs_on : (steps : ℕ) → IsStanding m q t limit steps stands.AtLimit → RunsOn m q t limit
  limited_runs_on steps h =
      let last = some_config (at m q t limit) refl h.1 in
      record {
        config = last.0;
        comes = last.1;
        different = λ i j less within same.
            let here = each_step last.0 last.1 i (omega arith) (at m q t i) refl in
            limited_repeats m q t limit steps i j h (omega arith) (record { config = here.0; before = less; first_time = here.1; second_time = sym same ∙ here.1 });
      }

  -- so did the run by which a program is at the limit
  pub limited_verdict : IsVerdict m q limit (verdicts.AtLimit t) → RunsOn m q t limit
  limited_verdict h =
      let it = h.1 in
      let stands_so : IsStanding m q t limit it.outcome.steps it.outcome.standing = subst (λ i. IsStanding m q i limit it.outcome.steps it.outcome.standing) it.instance it.is_outcome.stands in
      limited_runs_on it.outcome.steps (subst (IsStanding m q t limit it.outcome.steps) it.such stands_so)
