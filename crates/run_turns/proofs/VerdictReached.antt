-- The verdict over all runs, from a round of the lesser ones.
use Rattle.std.proofs.Common.{◌≡◌, ℕ, ◌+◌, ◌-◌, ◌<◌, ◌≤◌, List, ◌++◌, take, drop, length, get_or, Option, Some, None, sym, ◌∙◌, ap, subst, inl, inr, arith}
use Rattle.std.specs.Prelude.{All, AllPairs, Contains}
use Rattle.std.specs.Option.{unwrap_or}
use Rattle.std.proofs.lemmas.Option.{slice_get_within, slice_get-get_or, get_or_from_slice_get}
use Rattle.std.proofs.lemmas.Bool.{cases_order}
use Rattle.std.proofs.lemmas.List.{take-append-drop, take-map, take_all, take_at, drop_all, append-nil, take-append-le, get_or-take, get_or_default, length-append, length-drop, length-map, length-take, length-take-le}
use Rattle.std.proofs.lemmas.List.Elements.{All-take, All-drop, All-weaker}
use Rattle.std.proofs.lemmas.List.Sums.{sum_by-take-le}
use Rattle.program_model.specs.declared.verdict.Cause.{Cause}
use Rattle.program_model.specs.declared.verdict.Verdict.{Verdict}
use Rattle.program_model.specs.declared.verdict.Verdict.TheVariants as verdicts
use Rattle.program_model.specs.Semantics.{Semantics}
use Rattle.program_model.specs.Program.{Program, Extends}
use Rattle.program_model.specs.Verdict.{IsVerdictOver}
use Rattle.interpreter.specs.declared.run.Run.{Run}
use Rattle.interpreter.specs.Runs.{IsRunOf}
use Rattle.interpreter.proofs.Shared.{shared}
use Rattle.run_turns.specs.Settling.{instances_of, HasInstance, AreRising, AreRunsOf, HaveSettled}
use Rattle.run_turns.specs.Inner.Rounds.{steps_left, HaveGoneOn, IsJudged, IsRefutedAt, IsRefusal}
use Rattle.run_turns.proofs.JoinedVerdicts.{refused_by}
use Rattle.run_turns.proofs.RunsGoneOn.{gone_on, gone_among}

-- ---- rising numbers

rising_take : (count : ℕ) (ts : List ℕ) → AllPairs (λ s t. s < t) ts → AllPairs (λ s t. s < t) (take count ts)
rising_take count ts rising i j d less within =
    let size = length-take count ts in
    let first = get_or-take count ts i d (omega (arith, size)) in
    let second = get_or-take count ts j d (omega (arith, size)) in
    let below = rising i j d less (omega (arith, size)) in
    omega (arith, first, second, below)

-- what is less than the number at a place stands before it
before_place : (ts : List ℕ) (place t s : ℕ) → AllPairs (λ s t. s < t) ts → place < length ts → get_or ts place t ≡ t → Contains ts s → s < t → Contains (take place ts) s
before_place ts place t s rising within here among less =
    let there : get_or ts among.0 t ≡ s = get_or_default ts among.0 t s among.1 ∙ among.2 in
    elim (cases_order among.0 place) [
      | inl same ↦ let e = ap (λ k. get_or ts k t) same in absurd (omega arith)
      | inr o ↦ elim o [
        | inl before ↦ (among.0, omega (arith, length-take place ts), get_or-take place ts among.0 s before ∙ among.2)
        | inr after ↦ let more = rising place among.0 t after among.1 in absurd (omega arith)
      ]
    ]

module _ {C : Type 0} where
  instances_taken : (count : ℕ) (runs : List (Run C)) → instances_of (take count runs) ≡ take count (instances_of runs)
  instances_taken count runs = sym (take-map (λ (run : Run C). run.instance) count runs)

  -- the runs before a place
  pub rising_before : (count : ℕ) (old now : List (Run C)) → instances_of now ≡ instances_of old → AreRising old → AreRising (take count now)
  rising_before count old now same rising =
      subst (AllPairs (λ s t. s < t)) (sym (instances_taken count now ∙ ap (take count) same)) (rising_take count (instances_of old) rising)

  size_of : (runs others : List (Run C)) → instances_of runs ≡ instances_of others → length runs ≡ length others
  size_of runs others same = sym (length-map runs (λ (run : Run C). run.instance)) ∙ ap length same ∙ length-map others (λ (run : Run C). run.instance)

module _ {C : Type 0} (m : Semantics C) (belongs : ℕ → C → Type 0) (q : Program) (limit : ℕ) where
  -- ---- a round of the runs before a place

  module _ (now live : List (Run C)) (count acts acts_new copies copies_new : ℕ) (within : count ≤ length now) (are_runs : AreRunsOf m belongs q limit now) (gone : HaveGoneOn m belongs q limit (take count now) live acts acts_new copies copies_new) where
    pub gone_before : HaveGoneOn m belongs q limit now (live ++ drop count now) acts acts_new copies copies_new
    gone_before =
        subst (λ runs. HaveGoneOn m belongs q limit runs (live ++ drop count now) acts acts_new copies copies_new) (take-append-drop count now)
        (gone_among m belongs q limit (take count now) live (drop count now) acts acts_new copies copies_new gone (All-drop (λ (run : Run C). IsRunOf m belongs q run × (run.marks.steps ≤ limit)) count now are_runs))

    pub gone_further : (old : List (Run C)) (acts_old copies_old : ℕ) → HaveGoneOn m belongs q limit old now acts_old acts copies_old copies → HaveGoneOn m belongs q limit old (live ++ drop count now) acts_old acts_new copies_old copies_new
    gone_further old acts_old copies_old h = gone_on m belongs q limit old now (live ++ drop count now) acts_old acts acts_new copies_old copies copies_new h gone_before

    live_size : length live ≡ count
    live_size = size_of live (take count now) gone.instances ∙ length-take-le count now within

    -- there are as many runs as before
    pub same_size : length (live ++ drop count now) ≡ length now
    same_size = omega (arith, length-append live (drop count now), length-drop count now, live_size, within)

    -- a round that is unfinished leaves fewer steps to make
    pub fewer_steps : steps_left limit live < steps_left limit (take count now) → count + steps_left limit (take count (live ++ drop count now)) < count + steps_left limit (take count now)
    fewer_steps h =
        let same : steps_left limit (take count (live ++ drop count now)) ≡ steps_left limit live = ap (steps_left limit) (take_at live (drop count now) count live_size) in
        omega arith

    -- a round in which a run refutes the program leaves fewer runs
    pub fewer_runs : (place : ℕ) → place < count → place + steps_left limit (take place (live ++ drop count now)) < count + steps_left limit (take count now)
    fewer_runs place below =
        let same : steps_left limit (take place (live ++ drop count now)) ≡ steps_left limit (take place live) = ap (steps_left limit) (take-append-le place live (drop count now) (omega (arith, live_size))) in
        let part = sum_by-take-le (λ (run : Run C). limit - run.marks.steps) live place in
        let fewer = gone.steps in
        omega (arith, same, part, fewer)

    -- the place of a run that refutes the program is before
    pub refuted_before : (old : List (Run C)) (place t : ℕ) (cause : Cause) → instances_of now ≡ instances_of old → IsRefutedAt m q limit (take count now) place t cause → (place < count) × IsRefutedAt m q limit old place t cause
    refuted_before old place t cause same refuted =
        let here = refuted.here in
        let inside = slice_get_within (instances_of (take count now)) place t here in
        let size = length-map (take count now) (λ (run : Run C). run.instance) in
        let taken = length-take-le count now within in
        let below : place < count = omega (arith, inside, size, taken) in
        let at_place : get_or (instances_of old) place t ≡ t =
        ap (λ ts. get_or ts place t) (sym same)
        ∙ sym (get_or-take count (instances_of now) place t below)
        ∙ ap (λ ts. get_or ts place t) (sym (instances_taken count now))
        ∙ get_or_from_slice_get (instances_of (take count now)) place t t here in (
          below,
          record {
            here = slice_get-get_or (instances_of old) place t (omega (arith, below, within, size_of now old same, length-map old (λ (run : Run C). run.instance))) ∙ ap Some at_place;
            refutes = refuted.refutes;
          },
        )

  -- the runs before a place are runs of the program
  pub runs_before : (count : ℕ) (runs : List (Run C)) → AreRunsOf m belongs q limit runs → AreRunsOf m belongs q limit (take count runs)
  runs_before count runs h = All-take (λ (run : Run C). IsRunOf m belongs q run × (run.marks.steps ≤ limit)) count runs h

  -- runs of a program are ones of each program that extends it
  pub shared_runs : (runs : List (Run C)) → AreRunsOf m belongs q limit runs → (program : Program) → Extends program q → All (IsRunOf m belongs program) runs
  shared_runs runs h program extends = All-weaker (λ (run : Run C). IsRunOf m belongs q run × (run.marks.steps ≤ limit)) (IsRunOf m belongs program) (λ run one. shared m belongs q program run extends one.0) runs h

  -- ---- the verdict

  pub decided : (old now : List (Run C)) (count : ℕ) (refusal : Option Verdict) (verdict : Verdict) → instances_of now ≡ instances_of old → AreRising old → IsRefusal m q limit old count refusal →
      IsJudged m q limit (HasInstance (take count now)) verdict → IsVerdictOver m q limit (HasInstance old) (unwrap_or refusal verdict)
  decided old now count None verdict same rising all judged =
      let size : length now ≤ count = omega (arith, all, size_of now old same) in
      subst (λ ts. IsVerdictOver m q limit (Contains ts) verdict) (ap instances_of (take_all count now size) ∙ same) judged.over
  decided old now count (Some (verdicts.Refused t cause)) verdict same rising refuted judged =
      let ts = instances_of old in
      let here = refuted.here in
      let within = slice_get_within ts count t here in
      let at_place = get_or_from_slice_get ts count t t here in
      refused_by m q limit (Contains ts) t cause (count, within, at_place) refuted.refutes
      (λ s among less. judged.none_refutes s (subst (λ us. Contains us s) (sym (instances_taken count now ∙ ap (take count) same)) (before_place ts count t s rising within at_place among less)))
  decided old now count (Some (verdicts.AtLimit t)) verdict same rising refuted judged = absurd refuted
  decided old now count (Some (verdicts.Waiting line)) verdict same rising refuted judged = absurd refuted
  decided old now count (Some verdicts.Solved) verdict same rising refuted judged = absurd refuted

  pub settled_at_last : (old now live : List (Run C)) (count : ℕ) (refusal : Option Verdict) (verdict : Verdict) → instances_of now ≡ instances_of old → IsRefusal m q limit old count refusal → HaveSettled m q limit live verdict → HaveSettled m q limit (live ++ drop count now) (unwrap_or refusal verdict)
  settled_at_last old now live count None verdict same all h =
      let size : length now ≤ count = omega (arith, all, size_of now old same) in
      subst (λ runs. HaveSettled m q limit runs verdict) (sym (ap (λ runs. live ++ runs) (drop_all count now size) ∙ append-nil live)) h
  settled_at_last old now live count (Some (verdicts.Refused t cause)) verdict same refuted h = tt
  settled_at_last old now live count (Some (verdicts.AtLimit t)) verdict same refuted h = absurd refuted
  settled_at_last old now live count (Some (verdicts.Waiting line)) verdict same refuted h = absurd refuted
  settled_at_last old now live count (Some verdicts.Solved) verdict same refuted h = absurd refuted
