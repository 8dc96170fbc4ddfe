-- Runs that repeat: they go on for ever, and a repetition can be noticed in time.
use Rattle.std.proofs.Common.{◌≡◌, ℕ, zero, suc, ◌+◌, ◌-◌, ◌*◌, ◌<◌, ◌≤◌, Option, Some, None, max, refl, sym, ◌∙◌, ap, subst, inl, inr, arith}
use Rattle.std.specs.Prelude.{option_and_then}
use Rattle.std.proofs.lemmas.Option.{none-some}
use Rattle.std.proofs.lemmas.Bool.{cases_lt, cases_order}
use Rattle.loop_witness.specs.Repetitions.{IsRun, Repeats, IsFirst, IsNoticeable, IsNoticeableBy, IsNoticed, NoneNoticedBy}
use Rattle.loop_witness.proofs.MarkSteps.{marks_apart, mark_from}

module _ {C : Type 0} (step : C → Option C) (run : ℕ → Option C) (is_run : IsRun step run) where
  -- a run goes on alike from two equal configurations
  pub alike : (i j after a b : ℕ) → a ≡ i + after → b ≡ j + after → run i ≡ run j → run a ≡ run b
  alike i j zero a b x y same =
      let here : a ≡ i = omega arith in
      let there : b ≡ j = omega arith in
      ap run here ∙ same ∙ ap run (sym there)
  alike i j (suc after) zero b x y same = absurd (omega arith)
  alike i j (suc after) (suc a) zero x y same = absurd (omega arith)
  alike i j (suc after) (suc a) (suc b) x y same = is_run a ∙ ap (option_and_then step) (alike i j after a b (omega arith) (omega arith) same) ∙ sym (is_run b)

  -- a run that is over stays so
  over_stays : (s after k : ℕ) → k ≡ s + after → run s ≡ None → run k ≡ None
  over_stays s zero k e none = let same : k ≡ s = omega arith in ap run same ∙ none
  over_stays s (suc after) zero e none = absurd (omega arith)
  over_stays s (suc after) (suc k) e none = is_run k ∙ ap (option_and_then step) (over_stays s after k (omega arith) none)

  -- a run that repeats comes to the configuration again, as late as one likes
  record Again (i : ℕ) (late : ℕ) : Type 0 where
    time : ℕ
    after : late ≤ time
    same : run time ≡ run i

  again : (i j late : ℕ) → i < j → run i ≡ run j → Again i late
  again i j zero less same = record { time = i; after = omega arith; same = refl }
  again i j (suc late) less same =
      let last = again i j late less same in
      let after = last.after in
      elim (cases_lt last.time i) [
        | inl h ↦ record { time = i; after = omega arith; same = refl }
        | inr h ↦ record {
          time = j + (last.time - i);
          after = omega arith;
          same = sym (alike i j (last.time - i) last.time (j + (last.time - i)) (omega arith) refl same) ∙ last.same;
        }
      ]

  -- a run that repeats makes each step
  some_here : (i j s : ℕ) → Repeats run i j → (here : Option C) → run s ≡ here → (config : C) × (run s ≡ Some config)
  some_here i j s repeats None over =
      let late = again i j s repeats.before (repeats.first_time ∙ sym repeats.second_time) in
      let after = late.after in
      absurd (none-some repeats.config (sym (over_stays s (late.time - s) late.time (omega arith) over) ∙ late.same ∙ repeats.first_time))
  some_here i j s repeats (Some config) is = (config, is)

  pub makes_each : (i j s : ℕ) → Repeats run i j → (config : C) × (run s ≡ Some config)
  makes_each i j s repeats = some_here i j s repeats (run s) refl

  -- a run that repeats does so at each later pair of steps that are as far apart
  pub repeats_later : (i j after a b : ℕ) → a ≡ i + after → b ≡ j + after → Repeats run i j → Repeats run a b
  repeats_later i j after a b x y repeats =
      let here = makes_each i j a repeats in
      let before = repeats.before in
      let same = alike i j after a b x y (repeats.first_time ∙ sym repeats.second_time) in
      record { config = here.0; before = omega arith; first_time = here.1; second_time = sym same ∙ here.1 }

  -- where a configuration comes again at step j, a repetition can be noticed by step 3 * j
  pub noticeable_in_time : (i j : ℕ) → Repeats run i j → IsNoticeableBy run (3 * j)
  noticeable_in_time i j repeats =
      let before = repeats.before in
      let near_mark = mark_from (max i (j - i - 1)) in
      let above = near_mark.above in
      let near = near_mark.near in
      let from = near_mark.mark in
      let to = from + (j - i) in
      (from, to, omega arith, record { mark = near_mark.is_mark_step; soon = omega arith; repeats = repeats_later i j (from - i) from to (omega arith) (omega arith) repeats })

  -- a repetition that can be noticed is not before the one that is
  pub noticed_first : (from to a b : ℕ) → IsNoticed run from to → IsNoticeable run a b → to ≤ b
  noticed_first from to a b noticed x =
      let soon = noticed.noticeable.soon in
      let before = x.repeats.before in
      elim (cases_order a from) [
        | inl e ↦ elim (cases_lt b to) [
          | inl h ↦ absurd (noticed.least_repeat b h (subst (λ i. IsNoticeable run i b) e x))
          | inr h ↦ h
        ]
        | inr o ↦ elim o [
          | inl l ↦ absurd (noticed.least_mark a b l x)
          | inr l ↦
              let apart = marks_apart from a noticed.noticeable.mark x.mark l in
              omega arith
        ]
      ]

  -- so the one that is noticed is noticed by then
  pub noticed_in_time : (i j from to : ℕ) → Repeats run i j → IsNoticed run from to → to ≤ 3 * j
  noticed_in_time i j from to repeats noticed =
      let it = noticeable_in_time i j repeats in
      let first = noticed_first from to it.0 it.1 noticed it.3 in
      let few = it.2 in
      omega arith

  -- where no lesser mark repeats, the least repetition of a mark would be noticed
  unnoticed_mark : (latest a : ℕ) → NoneNoticedBy run latest → ((c d : ℕ) → c < a → d ≤ latest → IsNoticeable run c d → ⊥) → (bound b : ℕ) → b < bound → b ≤ latest → IsNoticeable run a b → ⊥
  unnoticed_mark latest a none lesser zero b below few x = absurd (omega arith)
  unnoticed_mark latest a none lesser (suc bound) b below few x =
      none a b few (record {
        noticeable = x;
        least_mark = λ c d less y.
            let apart = marks_apart c a y.mark x.mark less in
            let soon = y.soon in
            let before = x.repeats.before in
            lesser c d less (omega arith) y;
        least_repeat = λ d less y. unnoticed_mark latest a none lesser bound d (omega arith) (omega arith) y;
      })

  -- so where none is noticed up to a step, none can be
  pub unnoticeable : (latest : ℕ) → NoneNoticedBy run latest → (bound a b : ℕ) → a < bound → b ≤ latest → IsNoticeable run a b → ⊥
  unnoticeable latest none zero a b below few x = absurd (omega arith)
  unnoticeable latest none (suc bound) a b below few x = unnoticed_mark latest a none (λ c d less within y. unnoticeable latest none bound c d (omega arith) within y) (suc b) b (omega arith) few x

  -- and no configuration comes twice in the first third of the steps
  pub none_in_a_third : (latest i j : ℕ) → NoneNoticedBy run latest → 3 * j ≤ latest → Repeats run i j → ⊥
  none_in_a_third latest i j none within repeats =
      let it = noticeable_in_time i j repeats in
      let few = it.2 in
      unnoticeable latest none (suc it.0) it.0 it.1 (omega arith) (omega arith) it.3

  -- the first repetition of the steps 2 and 5 is noticed at the steps 3 and 6
  pub noticed_at_six : IsFirst run 2 5 → IsNoticed run 3 6
  noticed_at_six is_first = record {
    noticeable = record { mark = (2, refl); soon = omega arith; repeats = repeats_later 2 5 1 3 6 refl refl is_first.repeats };
    least_mark = λ a b less x.
        let soon = x.soon in
        let apart = marks_apart a 3 x.mark (2, refl) less in
        is_first.first a b (omega arith) x.repeats;
    least_repeat = λ b less x.
        elim (cases_lt b 5) [
          | inl h ↦ is_first.first 3 b h x.repeats
          | inr h ↦
              let five : b ≡ 5 = omega arith in
              let third : run 3 ≡ Some is_first.repeats.config = x.repeats.first_time ∙ sym x.repeats.second_time ∙ ap run five ∙ is_first.repeats.second_time in
              is_first.first 2 3 (omega arith) (record { config = is_first.repeats.config; before = omega arith; first_time = is_first.repeats.first_time; second_time = third })
        ];
  }
