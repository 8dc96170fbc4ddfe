-- Marks that watch a run.
use Rattle.std.proofs.Common.{◌≡◌, ℕ, ◌+◌, ◌*◌, ◌<◌, Bool, false, Option, refl, sym, ◌∙◌, subst, inl, inr, arith}
use Rattle.std.specs.Prelude.{◌↔◌, IsTrue}
use Rattle.std.proofs.lemmas.Bool.{cases_lt, true≢false}
use Rattle.loop_witness.specs.Marks.{Counted, IsLatest}
use Rattle.loop_witness.specs.Turns.{IsAnswer}
use Rattle.loop_witness.specs.Repetitions.{IsRun, Repeats, IsNoticeable, IsNoticed, Watches, IsTold}
use Rattle.loop_witness.specs.declared.turn.Turn.{Turn}
use Rattle.loop_witness.specs.declared.turn.Turn.TheVariants as turns
use Rattle.loop_witness.proofs.MarkSteps.{marks_apart, latest_half, latest_moved, latest_kept}
use Rattle.loop_witness.proofs.Repeating.{noticeable_in_time}

-- a turn that is told of no repetition keeps the latest mark
pub latest_turned : (same : Bool) (old new : Counted) (turn : Turn) → new.steps ≡ old.steps + 1 → IsAnswer same old new turn → same ≡ false → IsLatest old → IsLatest new
latest_turned same old new (turns.Repeat from to) counted answer differs latest = absurd (true≢false (sym answer.0 ∙ differs))
latest_turned same old new turns.MarkHere counted answer differs latest = latest_moved old new latest answer.1 answer.2
latest_turned same old new turns.Go counted answer differs latest = latest_kept old new latest counted answer.1 answer.2

module _ {C : Type 0} (run : ℕ → Option C) where
  -- before the first step there is nothing to notice
  pub watches_first : Watches run (record { steps = 0; mark = 0 })
  watches_first = record {
    latest = record { is_mark_step = (0, refl); reached = omega arith; greatest = λ step mark counted. counted };
    unnoticed = λ i j few x. let before = x.repeats.before in omega arith;
  }

  -- marks that watch a run which repeats have counted few steps
  pub watched_in_time : (step : C → Option C) (i j : ℕ) (marks : Counted) → IsRun step run → Repeats run i j → Watches run marks → marks.steps < 3 * j
  watched_in_time step i j marks is_run repeats watches =
      let it = noticeable_in_time step run is_run i j repeats in
      let few = it.2 in
      elim (cases_lt marks.steps (3 * j)) [
        | inl h ↦ h
        | inr h ↦ absurd (watches.unnoticed it.0 it.1 (omega arith) it.3)
      ]

  module _ (old new : Counted) (watches : Watches run old) (counted : new.steps ≡ old.steps + 1) where
    -- a repetition of the mark is the one that is noticed
    repeat_noticed : Repeats run old.mark new.steps → IsNoticed run old.mark new.steps
    repeat_noticed repeats =
        let half = latest_half old watches.latest in
        let reached = watches.latest.reached in
        record {
          noticeable = record { mark = watches.latest.is_mark_step; soon = omega arith; repeats = repeats };
          least_mark = λ a b less x.
              let soon = x.soon in
              let apart = marks_apart a old.mark x.mark watches.latest.is_mark_step less in
              watches.unnoticed a b (omega arith) x;
          least_repeat = λ b less x. watches.unnoticed old.mark b (omega arith) x;
        }

    -- where the mark does not repeat, nothing can be noticed at the step
    none_here : (Repeats run old.mark new.steps → ⊥) → (i : ℕ) → IsNoticeable run i new.steps → ⊥
    none_here differs i x =
        let soon = x.soon in
        let before = x.repeats.before in
        let reached = watches.latest.reached in
        let greatest = watches.latest.greatest i x.mark (omega arith) in
        elim (cases_lt i old.mark) [
          | inl h ↦
              let apart = marks_apart i old.mark x.mark watches.latest.is_mark_step h in
              omega arith
          | inr h ↦
              let same : i ≡ old.mark = omega arith in
              differs (subst (λ from. Repeats run from new.steps) same x.repeats)
        ]

    watches_on : (Repeats run old.mark new.steps → ⊥) → IsLatest new → Watches run new
    watches_on differs latest = record {
      latest = latest;
      unnoticed = λ i j few x. elim (cases_lt old.steps j) [
        | inl h ↦
            let same : j ≡ new.steps = omega arith in
            none_here differs i (subst (IsNoticeable run i) same x)
        | inr h ↦ watches.unnoticed i j h x
      ];
    }

    pub told : (same : Bool) (turn : Turn) → IsAnswer same old new turn → (IsTrue same ↔ Repeats run old.mark new.steps) → IsTold run new turn
    told same (turns.Repeat from to) answer is = rw (answer.1, answer.2) (repeat_noticed (is.0 answer.0))
    told same turns.MarkHere answer is = watches_on (λ repeats. true≢false (sym (is.1 repeats) ∙ answer.0)) (latest_turned same old new turns.MarkHere counted answer answer.0 watches.latest)
    told same turns.Go answer is = watches_on (λ repeats. true≢false (sym (is.1 repeats) ∙ answer.0)) (latest_turned same old new turns.Go counted answer answer.0 watches.latest)
