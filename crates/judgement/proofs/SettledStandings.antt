-- Where the run on each instance ended with the goal met or waits: what the standings, on the instances in order, say of the program.
use Rattle.std.proofs.Common.{All, ◌≡◌, ℕ, zero, suc, ◌+◌, ◌<◌, ◌≤◌, List, [], ◌∷◌, map, length, Option, Some, None, max, refl, sym, ◌∙◌, ap, ap₂, subst, inl, inr, arith}
use Rattle.std.specs.Prelude.{filter_map, slice_get, IsSomeAnd}
use Rattle.std.specs.List.{reduce, cons_option}
use Rattle.std.proofs.lemmas.Option.{none-some}
use Rattle.std.proofs.lemmas.Bool.{cases_lt}
use Rattle.std.proofs.lemmas.List.Elements.{All-nil, All-cons}
use Rattle.program_model.specs.declared.standing.Stand.{Stand}
use Rattle.program_model.specs.declared.standing.Stand.TheVariants as stands
use Rattle.program_model.specs.declared.outcome.RunOutcome.{RunOutcome}
use Rattle.program_model.specs.declared.verdict.Verdict.{Verdict}
use Rattle.program_model.specs.declared.verdict.Verdict.TheVariants as verdicts
use Rattle.program_model.specs.Semantics.{Semantics}
use Rattle.program_model.specs.Program.{Program}
use Rattle.program_model.specs.Run.{Ends}
use Rattle.program_model.specs.Standing.{IsStanding}
use Rattle.program_model.specs.Outcome.{AreOutcomesFrom, AreOutcomes}
use Rattle.program_model.specs.Verdict.{cause_by, IsVerdict}
use Rattle.evaluations.specs.declared.evaluation.Evaluation.{Evaluation}
use Rattle.evaluations.specs.declared.standing.Standing.{Standing}
use Rattle.evaluations.specs.Evaluations.{waits_at, standing_of, key}
use Rattle.refutation_tree.specs.Accepted.{AreEndsFrom}
use Rattle.run_turns.specs.Inner.Joining.{with_waiting, joined}
use Rattle.run_turns.specs.Inner.Rounds.{IsJudged}
use Rattle.run_turns.proofs.JoinedVerdicts.{judged_none, judged_more}
use Rattle.run_turns.proofs.RunsStanding.{standing_within}
use Rattle.judgement.specs.Judging.{IsSettledOn}

-- ---- the greatest of the lines at which runs wait

-- the lines at which runs wait that stand so
abbrev lines_of : List Standing → List ℕ
lines_of standings = filter_map (λ (standing : Standing). standing.waits) standings

-- the verdict where this is the greatest of them
abbrev verdict_at : Option ℕ → Verdict
verdict_at None = verdicts.Solved
verdict_at (Some line) = verdicts.Waiting line

abbrev greater : Option ℕ → ℕ → ℕ
greater None line = line
greater (Some other) line = max other line

with_greater : (greatest : Option ℕ) (line : ℕ) → with_waiting line (verdict_at greatest) ≡ verdict_at (Some (greater greatest line))
with_greater None line = refl
with_greater (Some other) line = ap verdicts.Waiting (omega arith)

greatest_more : (greatest : Option ℕ) (line : ℕ) (lines : List ℕ) → reduce max (cons_option greatest (line ∷ lines)) ≡ reduce max (cons_option (Some (greater greatest line)) lines)
greatest_more None line lines = refl
greatest_more (Some other) line lines = refl

greatest_of_one : (greatest : Option ℕ) → reduce max (cons_option greatest []) ≡ greatest
greatest_of_one None = refl
greatest_of_one (Some line) = refl

-- where there is no greatest one, there is none
none_listed : (lines : List ℕ) → reduce max lines ≡ None → lines ≡ []
none_listed [] e = refl
none_listed (line ∷ lines) e = absurd (none-some _ (sym e))

none_first : (slot : Option ℕ) (line : ℕ) (lines : List ℕ) → slot ≡ Some line → cons_option slot lines ≡ [] → ⊥
none_first slot line lines e none = let some : line ∷ lines ≡ [] = ap (λ o. cons_option o lines) (sym e) ∙ none in cc

module _ {C : Type 0} (m : Semantics C) (q : Program) (limit : ℕ) where
  -- ---- standings in order

  -- these are the standings of the runs on the instances from one on, in order, each of which ended with the goal met or waits
  abbrev AreSettledFrom : ℕ → List Standing → Type 0
  AreSettledFrom t [] = t ≡ m.instances
  AreSettledFrom t (standing ∷ standings) = IsSettledOn m q limit t standing × AreSettledFrom (t + 1) standings

  settled_from : (standings : List Standing) (t : ℕ) → t + length standings ≡ m.instances → ((k s : ℕ) → s ≡ t + k → s < m.instances → IsSomeAnd (slice_get standings k) (IsSettledOn m q limit s)) → AreSettledFrom t standings
  settled_from [] t e each = omega arith
  settled_from (standing ∷ standings) t e each = (
    each zero t (omega arith) (omega arith),
    settled_from standings (t + 1) (omega arith) (λ k s same within. each (suc k) s (omega arith) within),
  )

  -- the standings on all instances, in order
  abbrev pub AreSettled : List Standing → Type 0
  AreSettled standings = AreSettledFrom 0 standings

  pub settled_in_order : (standings : List Standing) → length standings ≡ m.instances → ((t : ℕ) → t < m.instances → IsSomeAnd (slice_get standings t) (IsSettledOn m q limit t)) → AreSettled standings
  settled_in_order standings size each = settled_from standings 0 (omega arith) (λ k s same within. let at : s ≡ k = omega arith in subst (λ i. IsSomeAnd (slice_get standings i) (IsSettledOn m q limit s)) at (each s within))

  -- ---- their outcomes

  record Outcomes (t : ℕ) (standings : List Standing) : Type 0 where
    pub runs : List RunOutcome
    pub are : AreOutcomesFrom m q limit t runs
    pub same : standings ≡ map standing_of runs

  outcomes_from : (standings : List Standing) (t : ℕ) → AreSettledFrom t standings → Outcomes t standings
  outcomes_from [] t h = record { runs = []; are = h; same = refl }
  outcomes_from (standing ∷ standings) t h =
      let later = outcomes_from standings (t + 1) h.1 in
      record {
        runs = h.0.outcome ∷ later.runs;
        are = (h.0.instance, h.0.is_outcome, later.are);
        same = ap₂ (λ (s : Standing) (ss : List Standing). s ∷ ss) h.0.such.1 later.same;
      }

  -- the key that the standings give is the one that the outcomes give
  pub key_so : (order : List Evaluation) (standings seen : List Standing) (its_key : List ℕ) → AreSettled standings → seen ≡ standings → its_key ≡ key order q seen → (runs : List RunOutcome) × AreOutcomes m q limit runs × (its_key ≡ key order q (map standing_of runs))
  key_so order standings seen its_key h same is =
      let all = outcomes_from standings 0 h in
      (all.runs, all.are, is ∙ ap (key order q) (same ∙ all.same))

  -- no run made more steps than its limit allows
  short_from : (standings : List Standing) (t most : ℕ) → limit ≤ most → AreSettledFrom t standings → All (λ (standing : Standing). standing.steps ≤ most) standings
  short_from [] t most few h = All-nil (λ (standing : Standing). standing.steps ≤ most)
  short_from (standing ∷ standings) t most few h =
      let run = h.0.outcome in
      let same : standing.steps ≡ run.steps = ap (λ (s : Standing). s.steps) h.0.such.1 in
      let made : run.steps ≤ limit = standing_within m q run.instance limit run.steps run.standing h.0.is_outcome.stands in
      All-cons (λ (standing : Standing). standing.steps ≤ most) standing standings (omega arith) (short_from standings (t + 1) most few h.1)

  pub short : (standings : List Standing) (most : ℕ) → limit ≤ most → AreSettled standings → All (λ (standing : Standing). standing.steps ≤ most) standings
  short standings most few h = short_from standings 0 most few h

  -- ---- the verdict

  waits_so : (t : ℕ) (standing : Standing) (stand : Stand) (h : IsSettledOn m q limit t standing) → h.outcome.standing ≡ stand → standing.waits ≡ waits_at stand
  waits_so t standing stand h e = ap (λ (s : Standing). s.waits) h.such.1 ∙ ap waits_at e

  -- one more run is looked at
  one_more : (t : ℕ) (standing : Standing) (stand : Stand) (verdict after : Verdict) (h : IsSettledOn m q limit t standing) → h.outcome.standing ≡ stand → cause_by h.outcome.steps stand ≡ None → joined t stand (Some verdict) ≡ Some after → IsJudged m q limit (λ s. s < t) verdict → IsJudged m q limit (λ s. s < t + 1) after
  one_more t standing stand verdict after h e unrefuting is judged =
      judged_more m q limit (λ s. s < t) (λ s. s < t + 1) t (λ s l. l) (λ s l. omega arith) (omega arith)
      (λ s l. elim (cases_lt s t) [ inl below ↦ inl below | inr above ↦ inr (omega arith) ])
      h.outcome h.instance h.is_outcome (ap (cause_by h.outcome.steps) e ∙ unrefuting) verdict after judged (ap (λ x. joined t x (Some verdict)) e ∙ is)

  judged_from : (standings : List Standing) (t : ℕ) (so_far greatest : Option ℕ) → AreSettledFrom t standings → reduce max (cons_option so_far (lines_of standings)) ≡ greatest → IsJudged m q limit (λ s. s < t) (verdict_at so_far) → IsJudged m q limit (λ s. s < m.instances) (verdict_at greatest)
  judged_from [] t so_far greatest h e judged =
      subst (λ o. IsJudged m q limit (λ s. s < m.instances) (verdict_at o)) (sym (greatest_of_one so_far) ∙ e)
      (subst (λ n. IsJudged m q limit (λ s. s < n) (verdict_at so_far)) h judged)
  judged_from (standing ∷ standings) t so_far greatest h e judged = elim h.0.such.0 [
    | inl ended ↦
        let waits = waits_so t standing stands.Ended h.0 ended in
        judged_from standings (t + 1) so_far greatest h.1 (ap (λ o. reduce max (cons_option so_far (cons_option o (lines_of standings)))) (sym waits) ∙ e)
        (one_more t standing stands.Ended (verdict_at so_far) (verdict_at so_far) h.0 ended refl refl judged)
    | inr waiting ↦
        let line = waiting.0 in
        let waits = waits_so t standing (stands.Waits line) h.0 waiting.1 in
        judged_from standings (t + 1) (Some (greater so_far line)) greatest h.1
        (sym (greatest_more so_far line (lines_of standings)) ∙ ap (λ o. reduce max (cons_option so_far (cons_option o (lines_of standings)))) (sym waits) ∙ e)
        (one_more t standing (stands.Waits line) (verdict_at so_far) (verdict_at (Some (greater so_far line))) h.0 waiting.1 refl (ap Some (with_greater so_far line)) judged)
  ]

  pub judged_so : (standings : List Standing) (greatest : Option ℕ) → AreSettled standings → greatest ≡ reduce max (lines_of standings) → IsVerdict m q limit (verdict_at greatest)
  judged_so standings greatest h e = (judged_from standings 0 None greatest h (sym e) (judged_none m q limit (λ s. s < 0) (λ s l. omega arith))).over

  -- ---- the ends

  end_so : (t : ℕ) (standing : Standing) (h : IsSettledOn m q limit t standing) → h.outcome.standing ≡ stands.Ended → Ends m q t standing.steps
  end_so t standing h ended =
      let run = h.outcome in
      let same : standing.steps ≡ run.steps = ap (λ (s : Standing). s.steps) h.such.1 in
      let stands_so : IsStanding m q t limit run.steps stands.Ended = subst (λ i. IsStanding m q i limit run.steps stands.Ended) h.instance (subst (IsStanding m q run.instance limit run.steps) ended h.is_outcome.stands) in
      subst (Ends m q t) (sym same) stands_so.1

  ends_from : (standings : List Standing) (t : ℕ) → AreSettledFrom t standings → lines_of standings ≡ [] → AreEndsFrom m q t (map (λ (standing : Standing). standing.steps) standings)
  ends_from [] t h none = h
  ends_from (standing ∷ standings) t h none = elim h.0.such.0 [
    | inl ended ↦
        let waits = waits_so t standing stands.Ended h.0 ended in (
          subst (λ i. i < m.instances) h.0.instance h.0.is_outcome.within,
          end_so t standing h.0 ended,
          ends_from standings (t + 1) h.1 (ap (λ o. cons_option o (lines_of standings)) (sym waits) ∙ none),
        )
    | inr waiting ↦ absurd (none_first standing.waits waiting.0 (lines_of standings) (waits_so t standing (stands.Waits waiting.0) h.0 waiting.1) none)
  ]

  pub ends_so : (standings : List Standing) → AreSettled standings → None ≡ reduce max (lines_of standings) → AreEndsFrom m q 0 (map (λ (standing : Standing). standing.steps) standings)
  ends_so standings h e = ends_from standings 0 h (none_listed (lines_of standings) (sym e))
