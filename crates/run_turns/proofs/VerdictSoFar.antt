-- The verdict over the runs before a place, while a round goes on.
use Rattle.std.proofs.Common.{◌≡◌, ℕ, ◌+◌, ◌-◌, ◌<◌, ◌≤◌, List, [], ◌∷◌, ◌++◌, take, length, get_or, set, Option, Some, None, refl, sym, ◌∙◌, ap, subst, inl, inr, arith}
use Rattle.std.specs.Prelude.{Contains}
use Rattle.std.proofs.lemmas.Option.{none-some, same_Some, slice_get-get_or}
use Rattle.std.proofs.lemmas.List.{take_more, take_more_set, take_all, get_or-map, get_or-take, get_or_default, length-map, length-take}
use Rattle.std.proofs.lemmas.List.Elements.{All-nil, All-push, Contains-append_left, Contains-push, Contains-push_cases}
use Rattle.program_model.specs.declared.standing.Stand.{Stand}
use Rattle.program_model.specs.declared.standing.Stand.TheVariants as stands
use Rattle.program_model.specs.declared.outcome.RunOutcome.{RunOutcome}
use Rattle.program_model.specs.declared.verdict.Cause.{Cause}
use Rattle.program_model.specs.declared.verdict.Cause.TheVariants as causes
use Rattle.program_model.specs.declared.verdict.Verdict.{Verdict}
use Rattle.program_model.specs.declared.verdict.Verdict.TheVariants as verdicts
use Rattle.program_model.specs.Semantics.{Semantics}
use Rattle.program_model.specs.Program.{Program, IsPartial}
use Rattle.program_model.specs.Standing.{IsStanding}
use Rattle.program_model.specs.Verdict.{cause_by, cause_of}
use Rattle.interpreter.specs.declared.run.Run.{Run}
use Rattle.interpreter.specs.Runs.{IsRunOf, IsTold}
use Rattle.run_turns.specs.Settling.{instances_of, HasInstance, AreRising, HasSettled, HaveSettled}
use Rattle.run_turns.specs.Inner.Joining.{with_waiting, with_limited, joined}
use Rattle.run_turns.specs.Inner.Rounds.{steps_left, IsJudged, IsRefutedAt, IsSoFar}
use Rattle.run_turns.proofs.JoinedVerdicts.{judged_none, judged_more}
use Rattle.run_turns.proofs.RunsStanding.{outcome_of}
use Rattle.run_turns.proofs.RunsGoneOn.{sum_after}

-- ---- joining

-- where there is no verdict yet, there is none after
joined_none : (t : ℕ) (stand : Stand) (verdict : Verdict) → joined t stand None ≡ Some verdict → ⊥
joined_none t stands.Ended verdict e = none-some verdict e
joined_none t stands.Unmet verdict e = none-some verdict e
joined_none t (stands.Repeats from to) verdict e = none-some verdict e
joined_none t (stands.Waits line) verdict e = none-some verdict e
joined_none t stands.AtLimit verdict e = none-some verdict e
joined_none t stands.QuotaUsed verdict e = none-some verdict e

-- a run that stands leaves a verdict
joined_goes_on : (t : ℕ) (stand : Stand) (verdict : Verdict) → joined t stand (Some verdict) ≡ None → stand ≡ stands.QuotaUsed
joined_goes_on t stands.Ended verdict e = absurd (none-some verdict (sym e))
joined_goes_on t stands.Unmet verdict e = absurd (none-some verdict (sym e))
joined_goes_on t (stands.Repeats from to) verdict e = absurd (none-some verdict (sym e))
joined_goes_on t (stands.Waits line) verdict e = absurd (none-some (with_waiting line verdict) (sym e))
joined_goes_on t stands.AtLimit verdict e = absurd (none-some (with_limited t verdict) (sym e))
joined_goes_on t stands.QuotaUsed verdict e = refl

module _ {C : Type 0} (m : Semantics C) (q : Program) (limit : ℕ) where
  -- ---- where runs have settled

  settled_push : (runs : List (Run C)) (run : Run C) (verdict : Verdict) → HasSettled m q limit run → HaveSettled m q limit runs verdict → HaveSettled m q limit (runs ++ run ∷ []) verdict
  settled_push runs run (verdicts.Refused t cause) h k = tt
  settled_push runs run (verdicts.AtLimit t) h k = tt
  settled_push runs run (verdicts.Waiting line) h k = All-push (HasSettled m q limit) runs run k h
  settled_push runs run verdicts.Solved h k = All-push (HasSettled m q limit) runs run k h

  settled_waiting : (runs : List (Run C)) (run : Run C) (line : ℕ) (verdict : Verdict) → HasSettled m q limit run → HaveSettled m q limit runs verdict → HaveSettled m q limit (runs ++ run ∷ []) (with_waiting line verdict)
  settled_waiting runs run line (verdicts.Refused t cause) h k = tt
  settled_waiting runs run line (verdicts.AtLimit t) h k = tt
  settled_waiting runs run line (verdicts.Waiting other) h k = All-push (HasSettled m q limit) runs run k h
  settled_waiting runs run line verdicts.Solved h k = All-push (HasSettled m q limit) runs run k h

  settled_limited : (runs : List (Run C)) (t : ℕ) (verdict : Verdict) → HaveSettled m q limit runs (with_limited t verdict)
  settled_limited runs t (verdicts.Refused s cause) = tt
  settled_limited runs t (verdicts.AtLimit s) = tt
  settled_limited runs t (verdicts.Waiting line) = tt
  settled_limited runs t verdicts.Solved = tt

  settled_more : (runs : List (Run C)) (run : Run C) (t : ℕ) (stand : Stand) (verdict after : Verdict) → IsStanding m q run.instance limit run.marks.steps stand → cause_by run.marks.steps stand ≡ None → HaveSettled m q limit runs verdict → joined t stand (Some verdict) ≡ Some after → HaveSettled m q limit (runs ++ run ∷ []) after
  settled_more runs run t stands.Ended verdict after h c k e = subst (HaveSettled m q limit (runs ++ run ∷ [])) (same_Some verdict after e) (settled_push runs run verdict (inl h) k)
  settled_more runs run t stands.Unmet verdict after h c k e = absurd (none-some (causes.Unmet run.marks.steps) (sym c))
  settled_more runs run t (stands.Repeats from to) verdict after h c k e = absurd (none-some (causes.Loops from to) (sym c))
  settled_more runs run t (stands.Waits line) verdict after h c k e = subst (HaveSettled m q limit (runs ++ run ∷ [])) (same_Some (with_waiting line verdict) after e) (settled_waiting runs run line verdict (inr (line, h)) k)
  settled_more runs run t stands.AtLimit verdict after h c k e = subst (HaveSettled m q limit (runs ++ run ∷ [])) (same_Some (with_limited t verdict) after e) (settled_limited (runs ++ run ∷ []) t verdict)
  settled_more runs run t stands.QuotaUsed verdict after h c k e = absurd h

  -- ---- what is told of a run

  told_standing : (t quota from to : ℕ) (stand : Stand) (verdict after : Verdict) → IsTold m q t quota limit from to stand → joined t stand (Some verdict) ≡ Some after → IsStanding m q t limit to stand
  told_standing t quota from to stands.Ended verdict after h e = h.1
  told_standing t quota from to stands.Unmet verdict after h e = h.1
  told_standing t quota from to (stands.Repeats i j) verdict after h e = h.1
  told_standing t quota from to (stands.Waits line) verdict after h e = h.1
  told_standing t quota from to stands.AtLimit verdict after h e = h.1
  told_standing t quota from to stands.QuotaUsed verdict after h e = absurd (none-some after e)

  told_refuting : (t quota from to : ℕ) (stand : Stand) (cause : Cause) → IsTold m q t quota limit from to stand → cause_by to stand ≡ Some cause → IsStanding m q t limit to stand
  told_refuting t quota from to stands.Ended cause h e = h.1
  told_refuting t quota from to stands.Unmet cause h e = h.1
  told_refuting t quota from to (stands.Repeats i j) cause h e = h.1
  told_refuting t quota from to (stands.Waits line) cause h e = h.1
  told_refuting t quota from to stands.AtLimit cause h e = h.1
  told_refuting t quota from to stands.QuotaUsed cause h e = absurd (none-some cause e)

  -- ---- one run more

  -- before any run had its turn
  pub so_far_none : (runs : List (Run C)) → IsSoFar m q limit runs runs 0 (Some verdicts.Solved)
  so_far_none runs = (judged_none m q limit (Contains []) (λ s l. let no = l.1 in omega arith), All-nil (HasSettled m q limit))

  module _ (belongs : ℕ → C → Type 0) (partial : IsPartial m.ops q) (old now : List (Run C)) (place : ℕ) (x y : Run C) (within : place < length now) (here : x ≡ get_or now place x) (same : y.instance ≡ x.instance)
      (instances : instances_of now ≡ instances_of old) (fewer : steps_left limit now ≤ steps_left limit old) (rising : AreRising old)
      (is_run : IsRunOf m belongs q y) (on : x.marks.steps ≤ y.marks.steps) (stand : Stand) (quota : ℕ) (some : 0 < quota) (told : IsTold m q x.instance quota limit x.marks.steps y.marks.steps stand)
      (outcome : RunOutcome) (is_outcome : outcome ≡ record { instance = y.instance; steps = y.marks.steps; missing = m.missing y.instance y.here.value; standing = stand }) where
    inside : place < length (instances_of old)
    inside = omega (arith, length-map now (λ (run : Run C). run.instance), ap length instances)

    pub at_place : get_or (instances_of old) place y.instance ≡ y.instance
    at_place =
        ap (λ ts. get_or ts place y.instance) (sym instances)
        ∙ get_or-map (λ (run : Run C). run.instance) now place x y.instance within
        ∙ ap (λ (run : Run C). run.instance) (sym here)
        ∙ sym same

    told_here : IsTold m q y.instance quota limit x.marks.steps y.marks.steps stand
    told_here = subst (λ t. IsTold m q t quota limit x.marks.steps y.marks.steps stand) (sym same) told

    -- the instances before the place are lesser ones
    below : (s : ℕ) → Contains (take place (instances_of old)) s → s < y.instance
    below s l =
        let before : l.0 < place = omega (arith, l.1, length-take place (instances_of old)) in
        let is : get_or (instances_of old) l.0 y.instance ≡ s = get_or_default (instances_of old) l.0 y.instance s (omega (arith, inside, before)) ∙ sym (get_or-take place (instances_of old) l.0 s before) ∙ l.2 in
        let less = rising l.0 place y.instance before inside in
        omega (arith, less, is, at_place)

    taken : take (place + 1) (instances_of old) ≡ take place (instances_of old) ++ y.instance ∷ []
    taken = take_more (instances_of old) place y.instance inside ∙ ap (λ t. take place (instances_of old) ++ t ∷ []) at_place

    judged : (verdict after : Verdict) → IsStanding m q y.instance limit y.marks.steps stand → cause_of outcome ≡ None → IsJudged m q limit (Contains (take place (instances_of old))) verdict → joined y.instance stand (Some verdict) ≡ Some after → IsJudged m q limit (Contains (take (place + 1) (instances_of old))) after
    judged verdict after standing kept h e =
        let before = take place (instances_of old) in
        subst (λ ts. IsJudged m q limit (Contains ts) after) (sym taken)
        (judged_more m q limit (Contains before) (Contains (before ++ y.instance ∷ [])) y.instance below
        (λ s l. Contains-append_left before (y.instance ∷ []) s l) (Contains-push before y.instance) (λ s l. Contains-push_cases before y.instance s l)
        outcome (ap (λ (o : RunOutcome). o.instance) is_outcome) (outcome_of m belongs q partial y is_run limit stand outcome standing is_outcome) kept
        verdict after h (ap (λ (o : RunOutcome). joined y.instance o.standing (Some verdict)) is_outcome ∙ e))

    -- a run that goes on made steps
    made_steps : stand ≡ stands.QuotaUsed → steps_left limit (set now place y) < steps_left limit old
    made_steps e =
        let used = subst (IsTold m q x.instance quota limit x.marks.steps y.marks.steps) e told in
        let total = sum_after m belongs q limit partial now place x y within here same (λ run. limit - run.marks.steps) in
        omega (arith, used.0, used.1, total, fewer, some)

    still_fewer : steps_left limit now < steps_left limit old → steps_left limit (set now place y) < steps_left limit old
    still_fewer h =
        let total = sum_after m belongs q limit partial now place x y within here same (λ run. limit - run.marks.steps) in
        omega (arith, h, total, on)

    -- a run that refutes the program
    pub refuted_here : (cause : Cause) → Some cause ≡ cause_of outcome → IsRefutedAt m q limit old place y.instance cause
    refuted_here cause e =
        let standing = told_refuting y.instance quota x.marks.steps y.marks.steps stand cause told_here (sym (e ∙ ap cause_of is_outcome)) in
        record {
          here = slice_get-get_or (instances_of old) place y.instance inside ∙ ap Some at_place;
          refutes = record { outcome = outcome; instance = ap (λ (o : RunOutcome). o.instance) is_outcome; is_outcome = outcome_of m belongs q partial y is_run limit stand outcome standing is_outcome; such = sym e };
        }

    so_far_by : cause_of outcome ≡ None → (so_far after : Option Verdict) → IsSoFar m q limit old now place so_far → joined y.instance stand so_far ≡ after → IsSoFar m q limit old (set now place y) (place + 1) after
    so_far_by kept None None h e = still_fewer h
    so_far_by kept None (Some after) h e = absurd (joined_none y.instance stand after e)
    so_far_by kept (Some verdict) None h e = made_steps (joined_goes_on y.instance stand verdict e)
    so_far_by kept (Some verdict) (Some after) h e =
        let standing = told_standing y.instance quota x.marks.steps y.marks.steps stand verdict after told_here e in
        let cause : cause_by y.marks.steps stand ≡ None = sym (ap cause_of is_outcome) ∙ kept in (
          judged verdict after standing kept h.0 e,
          subst (λ runs. HaveSettled m q limit runs after) (sym (take_more_set now place y within)) (settled_more (take place now) y y.instance stand verdict after standing cause h.1 e),
        )

    pub so_far_more : cause_of outcome ≡ None → (so_far after : Option Verdict) → IsSoFar m q limit old now place so_far → after ≡ joined outcome.instance outcome.standing so_far → IsSoFar m q limit old (set now place y) (place + 1) after
    so_far_more kept so_far after h e = so_far_by kept so_far after h (sym (e ∙ ap (λ (o : RunOutcome). joined o.instance o.standing so_far) is_outcome))

  -- ---- the end of a round

  -- where each run had its turn and stands, that is the verdict over them
  pub so_far_finished : (old now : List (Run C)) (place : ℕ) (so_far : Option Verdict) (verdict : Verdict) → instances_of now ≡ instances_of old → length now ≤ place → so_far ≡ Some verdict → IsSoFar m q limit old now place so_far → IsJudged m q limit (HasInstance old) verdict × HaveSettled m q limit now verdict
  so_far_finished old now place so_far verdict instances all e h =
      let there = subst (IsSoFar m q limit old now place) e h in
      let size : length (instances_of old) ≤ place = omega (arith, length-map now (λ (run : Run C). run.instance), ap length instances) in (
        subst (λ ts. IsJudged m q limit (Contains ts) verdict) (take_all place (instances_of old) size) there.0,
        subst (λ runs. HaveSettled m q limit runs verdict) (take_all place now all) there.1,
      )

  pub so_far_unfinished : (old now : List (Run C)) (place : ℕ) (so_far : Option Verdict) → so_far ≡ None → IsSoFar m q limit old now place so_far → steps_left limit now < steps_left limit old
  so_far_unfinished old now place so_far e h = subst (IsSoFar m q limit old now place) e h
