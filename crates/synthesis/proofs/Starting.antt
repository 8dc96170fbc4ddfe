-- The root of a size, which is judged by its fresh runs.
use Rattle.std.proofs.Common.{◌≡◌, ◌≢◌, ℕ, ◌<◌, ◌≤◌, List, [], ◌∷◌, Option, Some, None, refl, sym, ◌∙◌, ap, subst}
use Rattle.std.specs.Prelude.{All, slice_get}
use Rattle.std.specs.List.{range_with_len}
use Rattle.std.proofs.lemmas.Option.{same_Some}
use Rattle.std.proofs.lemmas.List.Elements.{All-weaker}
use Rattle.program_model.specs.declared.verdict.Verdict.TheVariants as verdicts
use Rattle.program_model.specs.Semantics.{Semantics}
use Rattle.program_model.specs.Program.{Program, empty}
use Rattle.program_model.proofs.Programs.{partial_empty}
use Rattle.interpreter.specs.declared.run.Run.{Run}
use Rattle.interpreter.specs.Counts.{RaisedAtMost}
use Rattle.interpreter.specs.Runs.{IsRunOf}
use Rattle.run_turns.specs.Settling.{instances_of, AreRunsOf, AreReached, operations_left, marks_left}
use Rattle.judgement.specs.declared.judging.Judgement.{Judgement}
use Rattle.judgement.specs.Judging.{IsJudgement, HaveSettledIn}
use Rattle.search_bounds.specs.declared.bounds.Bounds.{Bounds}
use Rattle.waiting_programs.specs.Programs.{Waiting, kept_at, kept_count}
use Rattle.synthesis.specs.declared.nodes.Held.TheVariants as holdings
use Rattle.synthesis.specs.declared.nodes.Nodes.{Nodes}
use Rattle.synthesis.specs.declared.newest.Newest.{Newest}
use Rattle.synthesis.specs.Search.{judged, or_else, limited_at}
use Rattle.synthesis.specs.BestFirst.{best_first}
use Rattle.synthesis.specs.FreshWork.{AreStandingSteps}
use Rattle.synthesis.specs.Inner.Judged.{verdict_of, found_in}
use Rattle.synthesis.specs.Inner.Keeping.{IsKeptFor, AreKept, KeepsRoot}
use Rattle.synthesis.specs.Inner.Nodes.{HasGrown, state_of}
use Rattle.synthesis.specs.Inner.Splitting.{AddsJudged, AddsNewest}
use Rattle.synthesis.specs.Inner.Working.{Counts}
use Rattle.synthesis.proofs.AddedNodes.{root_added}
use Rattle.synthesis.proofs.ChildRuns.{settled_where_waiting}
use Rattle.synthesis.proofs.FreshRuns.{child_reached, root_operations, root_marks}
use Rattle.synthesis.proofs.FreshWork.{root_worked}
use Rattle.synthesis.proofs.Keeping.{root_kept}
use Rattle.synthesis.proofs.SizesOfNodes.{root_grown_alone}

module _ {C : Type 0} (m : Semantics C) (belongs : ℕ → C → Type 0) (bounds : Bounds) (size : ℕ) (some : 0 < size) where
  -- one of the root's runs, at a step within the limit
  abbrev IsWithin : Run C → Type 0
  IsWithin run = IsRunOf m belongs (empty size) run × (run.marks.steps ≤ bounds.run)

  -- ---- the root's runs, which are fresh, make no step

  module _ (runs : List (Run C)) (are : AreRunsOf m belongs (empty size) bounds.run runs) where
    within : All (λ (run : Run C). run.instance < m.instances) runs
    within = All-weaker IsWithin (λ (run : Run C). run.instance < m.instances) (λ (run : Run C) (h : IsWithin run). h.0.within) runs are

    pub no_acts : (old new : ℕ) → ((reached : ℕ → ℕ) → AreReached m (empty size) bounds.run reached runs → RaisedAtMost (operations_left m (empty size) reached runs) old new) → (reached : Program → ℕ → ℕ) → AreStandingSteps m bounds.run reached → RaisedAtMost 0 old new
    no_acts old new acts reached steps =
        subst (λ by. RaisedAtMost by old new) (root_operations m bounds.run reached steps size some runs within)
        (acts (reached (empty size)) (child_reached m bounds.run reached steps (empty size) runs (partial_empty m.ops size some) within))

    pub no_copies : (old new : ℕ) → ((reached : ℕ → ℕ) → AreReached m (empty size) bounds.run reached runs → RaisedAtMost (marks_left reached runs) old new) → (reached : Program → ℕ → ℕ) → AreStandingSteps m bounds.run reached → RaisedAtMost 0 old new
    no_copies old new copies reached steps =
        subst (λ by. RaisedAtMost by old new) (root_marks m bounds.run reached steps size some runs within)
        (copies (reached (empty size)) (child_reached m bounds.run reached steps (empty size) runs (partial_empty m.ops size some) within))

  -- ---- the root alone

  module _ (judgement : Judgement) (is_judgement : IsJudgement m bounds.order (empty size) bounds.run judgement) (only : Nodes C) (adds : AddsJudged judgement [] only.held.items [] only.frontier.pairs) (none newest : Newest) (solved : newest.solved ≡ or_else none.solved (found_in (empty size) judgement)) (limited : newest.limited ≡ or_else none.limited (limited_at (judged (verdict_of judgement))))
      (runs : List (Run C)) (on_each : instances_of runs ≡ range_with_len 0 m.instances) (are : AreRunsOf m belongs (empty size) bounds.run runs) (settled : HaveSettledIn m (empty size) bounds.run runs judgement) where
    abbrev one : AddsNewest (best_first m bounds) (empty size) [] only.held.items [] only.frontier.pairs none newest
    one = root_added m bounds size judgement is_judgement only.held.items only.frontier.pairs adds none newest solved limited

    abbrev waiting : Waiting C
    waiting = record { program = empty size; runs = runs }

    -- where the root waits, its runs have settled
    root_waits : (line its_id : ℕ) → slice_get only.held.items 0 ≡ Some (holdings.Waiting line its_id) → IsKeptFor m belongs bounds.run (empty size) waiting
    root_waits line its_id at =
        let held : adds.held ≡ holdings.Waiting line its_id = same_Some _ _ (sym (ap (λ hs. slice_get hs 0) adds.pushed) ∙ at) in
        let same : judged (verdicts.Waiting line) ≡ judged (verdict_of judgement) = ap state_of (sym held) ∙ adds.state in
        let waits : verdicts.Waiting line ≡ verdict_of judgement = cc in
        record {
          program = refl;
          on_each = on_each;
          are = All-weaker IsWithin (IsRunOf m belongs (empty size)) (λ (run : Run C) (h : IsWithin run). h.0) runs are;
          settled = settled_where_waiting m (empty size) bounds.run runs judgement line waits settled;
        }

    module _ (id : ℕ) (kept : List (Option (Waiting C))) (keeps : KeepsRoot id only.held.items kept only.programs.kept) (here : kept_at kept id ≡ Some waiting) (alone : (other : ℕ) → other ≢ id → kept_at kept other ≡ None) (count : kept_count kept ≡ 1) where
      kept_alone : AreKept m belongs bounds.run (one.adds.node ∷ []) only.held.items only.programs.kept
      kept_alone = root_kept m belongs bounds.run size id one.adds.node waiting only.held.items kept only.programs.kept keeps here alone count
          (λ line its_id at. subst (λ q. IsKeptFor m belongs bounds.run q waiting) (sym one.adds.program_is) (root_waits line its_id at))

      pub root_starts : (before after : Counts) (budget from : ℕ) → none.solved ≡ None → none.limited ≡ None → ((reached : Program → ℕ → ℕ) → AreStandingSteps m bounds.run reached → RaisedAtMost 0 before.acts after.acts) →
          ((reached : Program → ℕ → ℕ) → AreStandingSteps m bounds.run reached → RaisedAtMost 0 before.copies after.copies) → HasGrown (best_first m bounds) belongs budget size from from only before after newest
      root_starts before after budget from unsolved unlimited acts copies =
          root_grown_alone (best_first m bounds) budget size from some belongs only before after none newest unsolved unlimited one kept_alone
          (root_worked (best_first m bounds) one.adds.node one.adds.is_judged.verdict before after one.adds.is_judged.state acts copies)
