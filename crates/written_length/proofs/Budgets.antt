-- The trees of a search tell no more splits than its budget.
use Rattle.std.proofs.Common.{◌≡◌, ℕ, ◌+◌, ◌<◌, ◌≤◌, List, [], ◌∷◌, ◌++◌, ap, arith}
use Rattle.std.proofs.lemmas.List.Sums.{sum_by_push}
use Rattle.std.specs.Prelude.{count_by}
use Rattle.refutation_tree.specs.declared.evidence.Tree.{Tree}
use Rattle.refutation_tree.specs.declared.evidence.Answer.{Answer}
use Rattle.refutation_tree.specs.Splits.{is_split, splits_of}
use Rattle.synthesis.specs.Search.{Setting, Node, Leads, here, next as next_split, Close, refuted, SearchesSize}
use Rattle.synthesis.specs.Answers.{tree_of, RefutesSizes, none, next, Searches, closed, nothing, IsAnswer}
use Rattle.synthesis.proofs.SpentBudgets.{size_count}

module _ {C : Type 0} (s : Setting C) (budget : ℕ) where
  leads_within : (from : ℕ) (start : List Node) (to : ℕ) (nodes : List Node) → from ≤ budget → Leads s budget from start to nodes → to ≤ budget
  leads_within from start to nodes few here = few
  leads_within from start to nodes few (next_split before old after leads stays splits) = let more : before < budget = stays.3 in omega arith

  -- the splits of a size follow those of the trees before it
  size_within : (size from to : ℕ) (trees : List Tree) (nodes : List Node) (close : Close) → (from ≡ splits_of trees) × (from ≤ budget) → SearchesSize s budget size from to nodes close
      → (to ≡ splits_of (trees ++ tree_of size nodes ∷ [])) × (to ≤ budget)
  size_within size from to trees nodes close before search =
      let count : splits_of (trees ++ tree_of size nodes ∷ []) ≡ splits_of trees + count_by is_split (tree_of size nodes).marks = sum_by_push (λ (tree : Tree). count_by is_split tree.marks) trees (tree_of size nodes) in
      (omega (arith, count, before.0, size_count s budget size from to nodes close search), leads_within from (search.root ∷ []) to nodes before.1 search.leads)

  sizes_within : (size to : ℕ) (trees : List Tree) → RefutesSizes s budget size to trees → (to ≡ splits_of trees) × (to ≤ budget)
  sizes_within size to trees none = (omega arith, omega arith)
  sizes_within size to trees (next before from after earlier nodes refutes search) =
      size_within (before + 1) from to earlier nodes refuted (sizes_within before from earlier refutes) search

  searches_within : (lines : ℕ) (a : Answer) → Searches s budget lines a → splits_of a.trees ≤ budget
  searches_within lines a (closed before from to trees nodes close refutes within search concludes is) =
      let told = size_within (before + 1) from to trees nodes close (sizes_within before from trees refutes) search in
      omega (arith, ap splits_of is, told.0, told.1)
  searches_within lines a (nothing stamps refutes is program ends) =
      let told = sizes_within lines stamps a.trees refutes in
      omega (arith, told.0, told.1)

  pub splits_within : (lines : ℕ) (a : Answer) → IsAnswer s budget lines a → splits_of a.trees ≤ budget
  splits_within lines a answer = searches_within lines a answer.searches
