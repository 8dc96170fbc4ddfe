-- Runs that have settled: where such a run stands is what is looked at of the outcome on its instance.
use Rattle.std.proofs.Common.{All, ◌≡◌, ◌≢◌, ◌⊎◌, ℕ, ◌+◌, ◌-◌, List, length, Option, Some, None, refl, sym, ◌∙◌, ap, subst, inl, inr, arith}
use Rattle.std.specs.Prelude.{◌==◌, if◌then◌else◌}
use Rattle.std.proofs.lemmas.Option.{none-some, same_Some}
use Rattle.std.proofs.lemmas.Bool.{eq-eqb, ne_eqb}
use Rattle.program_model.specs.declared.standing.Stand.{Stand}
use Rattle.program_model.specs.declared.standing.Stand.TheVariants as stands
use Rattle.program_model.specs.declared.verdict.Verdict.{Verdict}
use Rattle.program_model.specs.declared.verdict.Verdict.TheVariants as verdicts
use Rattle.program_model.specs.Semantics.{Semantics}
use Rattle.program_model.specs.Program.{Program, IsPartial, line_at}
use Rattle.program_model.specs.Run.{Config, at, Ends}
use Rattle.program_model.specs.Standing.{Waits, IsStanding}
use Rattle.evaluations.specs.declared.standing.Standing.{Standing}
use Rattle.evaluations.specs.Evaluations.{waits_at}
use Rattle.interpreter.specs.declared.run.Run.{Run}
use Rattle.interpreter.specs.Runs.{config_of, IsRunOf}
use Rattle.run_turns.specs.Settling.{HasSettled, HaveSettled}
use Rattle.run_turns.proofs.RunsStanding.{outcome_of}
use Rattle.judgement.specs.Judging.{run_standing, IsSettled, IsSettledOn}

module _ {C : Type 0} (m : Semantics C) (belongs : ℕ → C → Type 0) (q : Program) (partial : IsPartial m.ops q) (limit : ℕ) (run : Run C) (is_run : IsRunOf m belongs q run) where
  -- the line at which the run waits, if it does, by the line where it stands
  abbrev waits_here : Option ℕ
  waits_here = if run.here.line + 1 == length q then None else Some run.here.line

  here_at : (c : Config C) → at m q run.instance run.marks.steps ≡ Some c → run.here.line ≡ c.line
  here_at c comes = ap (λ (d : Config C). d.line) (same_Some (config_of run.here) c (sym is_run.stands.here ∙ comes))

  ends_here : Ends m q run.instance run.marks.steps → waits_here ≡ None
  ends_here ends =
      let here = here_at ends.config ends.comes in
      let last = ends.last in
      let yes = eq-eqb (run.here.line + 1) (length q) (omega arith) in
      rw yes refl

  -- the last line is not an undefined one
  not_last : (line : ℕ) → Waits m q run.instance run.marks.steps line → line + 1 ≢ length q
  not_last line waits e =
      let last : line ≡ length q - 1 = omega arith in
      none-some _ (sym waits.is_open.undefined ∙ ap (line_at q) last ∙ partial.last)

  waits_there : (line : ℕ) → Waits m q run.instance run.marks.steps line → waits_here ≡ Some line
  waits_there line waits =
      let here : run.here.line ≡ line = here_at waits.config waits.comes ∙ waits.here in
      let no = ne_eqb (run.here.line + 1) (length q) (λ e. not_last line waits (ap (λ l. l + 1) (sym here) ∙ e)) in
      rw no (ap Some here)

  settled_so : (stand : Stand) → IsSettled stand → IsStanding m q run.instance limit run.marks.steps stand → waits_here ≡ waits_at stand → IsSettledOn m q limit run.instance (run_standing m (length q) run)
  settled_so stand settled stands_so waits = record {
    outcome = record {
      instance = run.instance;
      steps = run.marks.steps;
      missing = m.missing run.instance run.here.value;
      standing = stand;
    };
    instance = refl;
    is_outcome = outcome_of m belongs q partial run is_run limit stand _ stands_so refl;
    such = (
      settled,
      ap {B = Standing} (λ w. record { missing = m.missing run.instance run.here.value; steps = run.marks.steps; waits = w }) waits,
    );
  }

  pub run_settles : HasSettled m q limit run → IsSettledOn m q limit run.instance (run_standing m (length q) run)
  run_settles h = elim h [
    | inl ended ↦ settled_so stands.Ended (inl refl) ended (ends_here ended.1)
    | inr waits ↦ settled_so (stands.Waits waits.0) (inr (waits.0, refl)) waits.1 (waits_there waits.0 waits.1.1)
  ]

-- after a program was found to wait or to be solved, each of its runs has settled
pub all_settled : {C : Type 0} (m : Semantics C) (q : Program) (limit : ℕ) (runs : List (Run C)) (verdict : Verdict) → ((line : ℕ) × (verdict ≡ verdicts.Waiting line)) ⊎ (verdict ≡ verdicts.Solved) → HaveSettled m q limit runs verdict → All (HasSettled m q limit) runs
all_settled m q limit runs verdict is h = elim is [
  | inl waiting ↦ subst (HaveSettled m q limit runs) waiting.1 h
  | inr solved ↦ subst (HaveSettled m q limit runs) solved h
]
