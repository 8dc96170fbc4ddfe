use Rattle.std.proofs.Common.{◌≡◌, ℕ, ◌+◌, ◌<◌, ◌≤◌, List, [], ◌∷◌, ◌++◌, length, get_or, sym, ◌∙◌, ap, subst, inl, inr, arith}
use Rattle.std.specs.Prelude.{AllPairs}
use Rattle.std.proofs.lemmas.Bool.{cases_lt}
use Rattle.std.proofs.lemmas.List.{map-append, get_or_append_left, get_or_push, length-map, length_push}
use Rattle.std.proofs.lemmas.List.Elements.{All-nil, All-push}
use Rattle.interpreter.specs.declared.run.Run.{Run}
use Rattle.interpreter.specs.Runs.{IsRunOf}
use Rattle.run_turns.specs.Settling.{instances_of, AreRising, AreRunsOf}
use Rattle.search_tests.proofs.settling.verdict_from.Goals as goal

-- where each of the runs is on the instance of its place, they are in rising order
each_more : {C : Type 0} (runs : List (Run C)) (run : Run C) (t : ℕ) → length runs ≡ t → run.instance ≡ t → ((k d : ℕ) → k < t → get_or (instances_of runs) k d ≡ k) → (k d : ℕ) → k < t + 1 → get_or (instances_of (runs ++ run ∷ [])) k d ≡ k
each_more {C} runs run t size instance each k d below =
    let size_too : length (instances_of runs) ≡ t = length-map runs (λ (r : Run C). r.instance) ∙ size in
    ap (λ ts. get_or ts k d) (map-append (λ (r : Run C). r.instance) runs (run ∷ []))
    ∙ (elim (cases_lt k t) [
      | inl h ↦ get_or_append_left (instances_of runs) (run.instance ∷ []) d k (omega arith) ∙ each k d h
      | inr h ↦
          let same : k ≡ t = omega arith in
          get_or_push (instances_of runs) run.instance d k (omega arith) ∙ instance ∙ sym same
    ])

are_rising : {C : Type 0} (runs : List (Run C)) (t : ℕ) → length runs ≡ t → ((k d : ℕ) → k < t → get_or (instances_of runs) k d ≡ k) → AreRising runs
are_rising {C} runs t size each i j d less within =
    let size_too : length (instances_of runs) ≡ t = length-map runs (λ (r : Run C). r.instance) ∙ size in
    let first = each i d (omega arith) in
    let second = each j d (omega arith) in
    omega (arith, first, second)

pub advance-requires-clause-run : goal.advance-requires-clause-run
advance-requires-clause-run g c = c.in_ok-run.ensures.run c.args.partial.now

pub loop-t-preserved : goal.loop-t-preserved
loop-t-preserved g c =
    let m = g.M.Machine.semantics c.args.machine.now in
    let belongs = g.M.Machine.belongs c.args.machine.now in
    let q = c.args.partial.now in
    let limit = c.from-limit.result in
    let before = c.loop-t.invariant in
    let items = c.in_ok-push.ensures.items in
    record {
      runs = subst (AreRunsOf m belongs q limit) (sym items) (All-push (λ run. IsRunOf m belongs q run × (run.marks.steps ≤ limit)) c.loop-t.runs.items c.advance.new.self before.runs (c.advance.ensures.run, c.advance.ensures.in_limit));
      size = ap length items ∙ length_push c.loop-t.runs.items c.advance.new.self ∙ ap (λ n. n + 1) before.size;
      each = λ k d below. subst (λ runs. get_or (instances_of runs) k d ≡ k) (sym items) (each_more c.loop-t.runs.items c.advance.new.self c.loop-t.t before.size (c.advance.ensures.instance ∙ c.in_ok-run.ensures.instance) before.each k d below);
    }
