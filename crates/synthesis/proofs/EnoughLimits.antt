-- A limit of steps by which each run comes to something is reached by no run, and so a search with it, and with a budget that is
-- enough, comes to a program or to none.
use Rattle.std.proofs.Common.{◌≡◌, ℕ, zero, suc, ◌+◌, ◌<◌, ◌≤◌, List, sym, ◌∙◌, refl, subst, arith}
use Rattle.program_model.specs.declared.standing.Stand.TheVariants as stands
use Rattle.program_model.specs.declared.verdict.Verdict.TheVariants as verdicts
use Rattle.program_model.specs.Semantics.{Semantics}
use Rattle.program_model.specs.Program.{Program}
use Rattle.program_model.specs.Run.{EndsMissing}
use Rattle.program_model.specs.Standing.{NothingBefore, IsStanding}
use Rattle.program_model.specs.Verdict.{IsVerdict}
use Rattle.refutation_tree.specs.declared.evidence.Tree.{Tree}
use Rattle.refutation_tree.specs.declared.evidence.Outcome.{Outcome}
use Rattle.refutation_tree.specs.declared.evidence.Outcome.TheVariants as outcomes
use Rattle.refutation_tree.specs.declared.evidence.Answer.{Answer}
use Rattle.interpreter.proofs.InTime.{limited_repeats}
use Rattle.synthesis.specs.Search.{Setting, Node, Close, found, run_spent, budget_spent, refuted, SearchesSize}
use Rattle.synthesis.specs.Answers.{Concludes, RefutesSizes, Searches, closed, nothing, IsAnswer}
use Rattle.synthesis.specs.Enough.{ComesInTime, ends, waits, repeats, IsEnoughFor, IsDecided, splits_up_to}
use Rattle.synthesis.proofs.SpentRuns.{limited_program}
use Rattle.synthesis.proofs.EnoughBudgets.{enough_unspent}

module _ {C : Type 0} (m : Semantics C) (q : Program) (t limit : ℕ) where
  -- a run that ends came to something
  ended_comes : (j missing : ℕ) → NothingBefore m q t (limit + 1) → j ≤ limit → EndsMissing m q t j missing → ⊥
  ended_comes j zero before in_time h = before j stands.Ended (omega arith) h
  ended_comes j (suc missing) before in_time h = before j stands.Unmet (omega arith) (missing, h)

  -- a run that comes to something in time is not at the limit
  in_time_unlimited : (steps : ℕ) → IsStanding m q t limit steps stands.AtLimit → ComesInTime m q t limit → ⊥
  in_time_unlimited steps h (ends j missing in_time ended) = ended_comes j missing h.2 in_time ended
  in_time_unlimited steps h (waits j line in_time waiting) = h.2 j (stands.Waits line) (omega arith) waiting
  in_time_unlimited steps h (repeats i j in_time loops) = limited_repeats m q t limit steps i j h in_time loops

  pub in_time_verdict : IsVerdict m q limit (verdicts.AtLimit t) → ComesInTime m q t limit → ⊥
  in_time_verdict h comes =
      let it = h.1 in
      let stands_so : IsStanding m q t limit it.outcome.steps it.outcome.standing = subst (λ i. IsStanding m q i limit it.outcome.steps it.outcome.standing) it.instance it.is_outcome.stands in
      in_time_unlimited it.outcome.steps (subst (IsStanding m q t limit it.outcome.steps) it.such stands_so) comes

-- ---- a limit that is enough

module _ {C : Type 0} (s : Setting C) (budget lines : ℕ) (enough : IsEnoughFor s.machine lines s.limit) where
  unlimited : (size from to t : ℕ) (nodes : List Node) → 0 < size → size ≤ lines → SearchesSize s budget size from to nodes (run_spent t) → ⊥
  unlimited size from to t nodes some few searched =
      let it = limited_program s budget size from to t nodes some searched in
      let sized = it.sized in
      in_time_verdict s.machine it.program t s.limit it.is_verdict (enough it.program t it.is_partial (omega arith) it.is_verdict.0)

  concludes_unlimited : (size from to : ℕ) (nodes : List Node) (close : Close) (a : Answer) (spent_size t : ℕ) → size < lines → SearchesSize s budget (size + 1) from to nodes close → Concludes s (size + 1) close a → a.outcome ≡ outcomes.SpentRun spent_size t → ⊥
  concludes_unlimited size from to nodes (found q) a spent_size t below searched concludes is = let no : outcomes.SpentRun spent_size t ≡ outcomes.Program (size + 1) = sym is ∙ concludes.0 in cc
  concludes_unlimited size from to nodes (run_spent at) a spent_size t below searched concludes is = unlimited (size + 1) from to at nodes (omega arith) (omega arith) searched
  concludes_unlimited size from to nodes budget_spent a spent_size t below searched concludes is = let no : outcomes.SpentRun spent_size t ≡ outcomes.SpentExpansions (size + 1) = sym is ∙ concludes.0 in cc
  concludes_unlimited size from to nodes refuted a spent_size t below searched concludes is = absurd concludes

  pub answer_unlimited : (a : Answer) (size t : ℕ) → IsAnswer s budget lines a → a.outcome ≡ outcomes.SpentRun size t → ⊥
  answer_unlimited a size t answer is = of_searches answer.searches
    where
      of_searches : Searches s budget lines a → ⊥
      of_searches (closed before from to trees nodes close refutes below searched concludes all) = concludes_unlimited before from to nodes close a size t below searched concludes is
      of_searches (nothing stamps refutes none program no_ends) = let no : outcomes.SpentRun size t ≡ outcomes.Nothing = sym is ∙ none in cc

-- ---- a budget that is enough

module _ {C : Type 0} (s : Setting C) (budget lines : ℕ) (enough : splits_up_to s.machine.ops lines ≤ budget) where
  concludes_unspent : (size from to : ℕ) (trees : List Tree) (nodes : List Node) (close : Close) (a : Answer) (spent_size : ℕ) → RefutesSizes s budget size from trees → size < lines → SearchesSize s budget (size + 1) from to nodes close → Concludes s (size + 1) close a → a.outcome ≡ outcomes.SpentExpansions spent_size → ⊥
  concludes_unspent size from to trees nodes (found q) a spent_size refutes below searched concludes is = let no : outcomes.SpentExpansions spent_size ≡ outcomes.Program (size + 1) = sym is ∙ concludes.0 in cc
  concludes_unspent size from to trees nodes (run_spent t) a spent_size refutes below searched concludes is = let no : outcomes.SpentExpansions spent_size ≡ outcomes.SpentRun (size + 1) t = sym is ∙ concludes.0 in cc
  concludes_unspent size from to trees nodes budget_spent a spent_size refutes below searched concludes is = enough_unspent s budget size from to lines trees nodes enough below refutes searched
  concludes_unspent size from to trees nodes refuted a spent_size refutes below searched concludes is = absurd concludes

  pub answer_unspent : (a : Answer) (size : ℕ) → IsAnswer s budget lines a → a.outcome ≡ outcomes.SpentExpansions size → ⊥
  answer_unspent a size answer is = of_searches answer.searches
    where
      of_searches : Searches s budget lines a → ⊥
      of_searches (closed before from to trees nodes close refutes below searched concludes all) = concludes_unspent before from to trees nodes close a size refutes below searched concludes is
      of_searches (nothing stamps refutes none program no_ends) = let no : outcomes.SpentExpansions size ≡ outcomes.Nothing = sym is ∙ none in cc

-- ---- both

decided : (outcome : Outcome) → ((size : ℕ) → outcome ≡ outcomes.SpentExpansions size → ⊥) → ((size t : ℕ) → outcome ≡ outcomes.SpentRun size t → ⊥) → IsDecided outcome
decided (outcomes.Program size) unspent unlimited = tt
decided outcomes.Nothing unspent unlimited = tt
decided (outcomes.SpentExpansions size) unspent unlimited = unspent size refl
decided (outcomes.SpentRun size t) unspent unlimited = unlimited size t refl

pub answer_decided : {C : Type 0} (s : Setting C) (budget lines : ℕ) (a : Answer) → splits_up_to s.machine.ops lines ≤ budget → IsEnoughFor s.machine lines s.limit → IsAnswer s budget lines a → IsDecided a.outcome
answer_decided s budget lines a splits steps answer =
    decided a.outcome (λ size is. answer_unspent s budget lines splits a size answer is) (λ size t is. answer_unlimited s budget lines steps a size t answer is)
