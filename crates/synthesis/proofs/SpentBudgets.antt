-- Where a search spent its budget, its answer has as many split marks as the budget, and a node that waits.
use Rattle.std.proofs.Common.{◌≡◌, ℕ, suc, ◌+◌, ◌<◌, ◌≤◌, true, false, List, [], ◌∷◌, ◌++◌, map, length, cond, take, drop, refl, sym, ◌∙◌, ap, subst, inl, inr, arith}
use Rattle.std.specs.Prelude.{Contains, count_by, is_some}
use Rattle.std.specs.List.{list_any}
use Rattle.std.proofs.lemmas.Bool.{cases_Bool, or_cases, false≢true, MatchBool-at_true, MatchBool-at_false, cond-false}
use Rattle.std.proofs.lemmas.List.{map-append}
use Rattle.std.proofs.lemmas.List.Sums.{sum_by-cons, sum_by-append, sum_by_push}
use Rattle.program_model.specs.declared.instr.Instr.{Instr}
use Rattle.program_model.specs.Alphabet.{alphabet}
use Rattle.program_model.specs.Program.{Program}
use Rattle.program_model.specs.declared.verdict.Cause.TheVariants as causes
use Rattle.program_model.specs.declared.verdict.Verdict.{Verdict}
use Rattle.program_model.specs.declared.verdict.Verdict.TheVariants as verdicts
use Rattle.refutation_tree.specs.declared.evidence.Mark.{Mark}
use Rattle.refutation_tree.specs.declared.evidence.Mark.TheVariants as marks
use Rattle.refutation_tree.specs.declared.evidence.Tree.{Tree}
use Rattle.refutation_tree.specs.declared.evidence.Outcome.TheVariants as outcomes
use Rattle.refutation_tree.specs.declared.evidence.Answer.{Answer}
use Rattle.synthesis.specs.Search.{Setting, State, judged, split, twin, Node, waits_at, is_waiting, AreChildren, Splits, Leads, here, next as next_split, Close, found, run_spent, budget_spent, refuted, SearchesSize, mark_of}
use Rattle.synthesis.specs.Answers.{tree_of, RefutesSizes, none, next, Concludes, Searches, closed, nothing, IsAnswer}
use Rattle.refutation_tree.specs.Splits.{is_split, splits_of}
use Rattle.synthesis.specs.Spent.{StandsInLast, SpendsBudget}
use Rattle.synthesis.proofs.Lists.{split_at}

-- ---- the split marks of nodes

abbrev pub marks_of : List Node → List Mark
marks_of nodes = map (λ (node : Node). mark_of node.state) nodes

abbrev pub split_marks : List Node → ℕ
split_marks nodes = count_by is_split (marks_of nodes)

split_marks-append : (xs ys : List Node) → split_marks (xs ++ ys) ≡ split_marks xs + split_marks ys
split_marks-append xs ys = ap (count_by is_split) (map-append (λ (node : Node). mark_of node.state) xs ys) ∙ sum_by-append _ (marks_of xs) (marks_of ys)

judged_unsplit : (verdict : Verdict) → is_split (mark_of (judged verdict)) ≡ false
judged_unsplit (verdicts.Refused t (causes.Unmet steps)) = refl
judged_unsplit (verdicts.Refused t (causes.Loops from to)) = refl
judged_unsplit (verdicts.AtLimit t) = refl
judged_unsplit (verdicts.Waiting line) = refl
judged_unsplit verdicts.Solved = refl

pub split_marks-cons : (node : Node) (nodes : List Node) (state : State) (count : ℕ) → node.state ≡ state → cond (is_split (mark_of state)) 1 0 ≡ count → split_marks (node ∷ nodes) ≡ count + split_marks nodes
split_marks-cons node nodes state count is counts =
    sum_by-cons _ (mark_of node.state) (marks_of nodes)
    ∙ ap (λ n. n + split_marks nodes) (ap (λ x. cond (is_split (mark_of x)) 1 0) is ∙ counts)

judged-cons : (node : Node) (nodes : List Node) (verdict : Verdict) → node.state ≡ judged verdict → split_marks (node ∷ nodes) ≡ 0 + split_marks nodes
judged-cons node nodes verdict is = split_marks-cons node nodes (judged verdict) 0 is (cond-false _ 1 0 (judged_unsplit verdict))

module _ {C : Type 0} (s : Setting C) where
  -- children are not split
  children_unsplit : (parent : Program) (line : ℕ) (instrs : List Instr) (number : ℕ) (made : List Node) → AreChildren s parent line number instrs made → split_marks made ≡ 0
  children_unsplit parent line [] number [] h = refl
  children_unsplit parent line [] number (node ∷ nodes) h = absurd h
  children_unsplit parent line (instr ∷ instrs) number [] h = absurd h
  children_unsplit parent line (instr ∷ instrs) number (node ∷ nodes) h =
      let later = children_unsplit parent line instrs (number + 1) nodes h.1 in
      let here : split_marks (node ∷ nodes) ≡ 0 + split_marks nodes = elim (cases_Bool (s.skips parent instr)) [
        | inl passed ↦ split_marks-cons node nodes twin 0 (MatchBool-at_true _ _ passed h.0.state).0 refl
        | inr kept ↦ let judging = MatchBool-at_false _ _ kept h.0.state in judged-cons node nodes judging.verdict judging.state
      ] in
      omega arith

  -- a split makes one split mark more
  splits_once : (stamp : ℕ) (old new : List Node) → Splits s stamp old new → split_marks new ≡ split_marks old + 1
  splits_once stamp old new h =
      let before = take h.place old in
      let rest = drop (h.place + 1) old in
      let put = record h.node { state = split h.line stamp } in
      let was : split_marks old ≡ split_marks before + split_marks rest =
      ap split_marks (split_at old h.place h.node h.here)
      ∙ split_marks-append before (h.node ∷ rest)
      ∙ ap (λ n. split_marks before + n) (judged-cons h.node rest (verdicts.Waiting h.line) h.waits ∙ omega arith) in
      let is : split_marks new ≡ split_marks (before ++ put ∷ h.made) + split_marks rest = ap split_marks h.after ∙ split_marks-append (before ++ put ∷ h.made) rest in
      omega (arith, was, is, split_marks-append before (put ∷ h.made), split_marks-cons put h.made (split h.line stamp) 1 refl refl, children_unsplit h.node.program h.line (alphabet s.machine.ops (length h.node.program) h.line) (length old) h.made h.children)

  module _ (budget : ℕ) where
    -- the stamps count the split marks, up to the budget
    leads_count : (from : ℕ) (start : List Node) (stamp : ℕ) (nodes : List Node) → Leads s budget from start stamp nodes → split_marks start + stamp ≡ split_marks nodes + from
    leads_count from start stamp nodes here = refl
    leads_count from start stamp nodes (next_split before old after leads stays splits) =
        omega (arith, leads_count from start before old leads, splits_once before old nodes splits)

    leads_within : (from : ℕ) (start : List Node) (stamp : ℕ) (nodes : List Node) → from ≤ budget → Leads s budget from start stamp nodes → stamp ≤ budget
    leads_within from start stamp nodes few here = few
    leads_within from start stamp nodes few (next_split before old after leads stays splits) = let more : before < budget = stays.3 in omega arith

    pub size_count : (size from to : ℕ) (nodes : List Node) (close : Close) → SearchesSize s budget size from to nodes close → to ≡ split_marks nodes + from
    size_count size from to nodes close h =
        omega (arith, leads_count from (h.root ∷ []) to nodes h.leads, judged-cons h.root [] h.is_root.is_judged.verdict h.is_root.is_judged.state)

    splits_of-append : (trees : List Tree) (size : ℕ) (nodes : List Node) → splits_of (trees ++ tree_of size nodes ∷ []) ≡ splits_of trees + split_marks nodes
    splits_of-append trees size nodes = sum_by_push _ trees (tree_of size nodes)

    sizes_count : (size to : ℕ) (trees : List Tree) → RefutesSizes s budget size to trees → to ≡ splits_of trees
    sizes_count size to trees none = refl
    sizes_count size to trees (next before from after earlier nodes refutes search) =
        omega (arith, sizes_count before from earlier refutes, size_count (before + 1) from to nodes refuted search, splits_of-append earlier (before + 1) nodes)

    sizes_within : (size to : ℕ) (trees : List Tree) → RefutesSizes s budget size to trees → to ≤ budget
    sizes_within size to trees none = omega arith
    sizes_within size to trees (next before from after earlier nodes refutes search) =
        leads_within from (search.root ∷ []) to nodes (sizes_within before from earlier refutes) search.leads

-- ---- a node that waits

waiting_mark : (state : State) → is_some (waits_at state) ≡ true → mark_of state ≡ marks.Waiting
waiting_mark (judged (verdicts.Refused t cause)) waits = absurd (false≢true waits)
waiting_mark (judged (verdicts.AtLimit t)) waits = absurd (false≢true waits)
waiting_mark (judged (verdicts.Waiting line)) waits = refl
waiting_mark (judged verdicts.Solved) waits = absurd (false≢true waits)
waiting_mark (split line stamp) waits = absurd (false≢true waits)
waiting_mark twin waits = absurd (false≢true waits)

contains_later : {X : Type 0} (x y : X) (xs : List X) → Contains xs x → Contains (y ∷ xs) x
contains_later x y xs h = let within = h.1 in (suc h.0, omega arith, h.2)

contains_first : {X : Type 0} (x y : X) (xs : List X) → y ≡ x → Contains (y ∷ xs) x
contains_first x y xs same = (0, omega arith, same)

waiting_marked : (nodes : List Node) → list_any is_waiting nodes ≡ true → Contains (marks_of nodes) marks.Waiting
waiting_marked [] waits = absurd (false≢true waits)
waiting_marked (node ∷ nodes) waits = elim (or_cases (is_waiting node) (list_any is_waiting nodes) waits) [
  | inl first ↦ contains_first marks.Waiting (mark_of node.state) (marks_of nodes) (waiting_mark node.state first)
  | inr later ↦ contains_later marks.Waiting (mark_of node.state) (marks_of nodes) (waiting_marked nodes later)
]

-- ---- the answer

-- a mark of the nodes of the last size stands in the last tree
abbrev pub stands_last : (mark : Mark) (size : ℕ) (a : Answer) (trees : List Tree) (nodes : List Node) → a.trees ≡ trees ++ tree_of size nodes ∷ [] → Contains (marks_of nodes) mark → StandsInLast mark size a.trees
stands_last mark size a trees nodes is marked = record { earlier = trees; last = tree_of size nodes; all = is; sized = refl; marked = marked }

module _ {C : Type 0} (s : Setting C) (budget : ℕ) where
  closed_spends : (size from to : ℕ) (trees : List Tree) (nodes : List Node) (a : Answer) → RefutesSizes s budget size from trees → SearchesSize s budget (size + 1) from to nodes budget_spent → a.trees ≡ trees ++ tree_of (size + 1) nodes ∷ [] → SpendsBudget budget (size + 1) a.trees
  closed_spends size from to trees nodes a refutes search is =
      let spent : budget ≤ to = search.closes.3 in
      let within = leads_within s budget from (search.root ∷ []) to nodes (sizes_within s budget size from trees refutes) search.leads in
      record {
        splits = omega (arith, ap splits_of is, splits_of-append s budget trees (size + 1) nodes, sizes_count s budget size from trees refutes, size_count s budget (size + 1) from to nodes budget_spent search);
        waits = stands_last marks.Waiting (size + 1) a trees nodes is (waiting_marked nodes search.closes.2);
      }

  spends_at : (size from to : ℕ) (trees : List Tree) (nodes : List Node) (close : Close) (a : Answer) (spent_size : ℕ) → a.outcome ≡ outcomes.SpentExpansions spent_size → RefutesSizes s budget size from trees → SearchesSize s budget (size + 1) from to nodes close → Concludes s (size + 1) close a →
      a.trees ≡ trees ++ tree_of (size + 1) nodes ∷ [] → SpendsBudget budget spent_size a.trees
  spends_at size from to trees nodes (found q) a spent_size spent refutes search concludes is = absurd (let no : outcomes.SpentExpansions spent_size ≡ outcomes.Program (size + 1) = sym spent ∙ concludes.0 in cc)
  spends_at size from to trees nodes (run_spent t) a spent_size spent refutes search concludes is = absurd (let no : outcomes.SpentExpansions spent_size ≡ outcomes.SpentRun (size + 1) t = sym spent ∙ concludes.0 in cc)
  spends_at size from to trees nodes budget_spent a spent_size spent refutes search concludes is =
      let same : outcomes.SpentExpansions (size + 1) ≡ outcomes.SpentExpansions spent_size = sym concludes.0 ∙ spent in
      let sizes : size + 1 ≡ spent_size = cc in
      subst (λ n. SpendsBudget budget n a.trees) sizes (closed_spends size from to trees nodes a refutes search is)
  spends_at size from to trees nodes refuted a spent_size spent refutes search concludes is = absurd concludes

  pub spent_budget_shown : (lines size : ℕ) (a : Answer) → IsAnswer s budget lines a → a.outcome ≡ outcomes.SpentExpansions size → SpendsBudget budget size a.trees
  spent_budget_shown lines size a answer spent = of_searches answer.searches
    where
      of_searches : Searches s budget lines a → SpendsBudget budget size a.trees
      of_searches (closed before from to trees nodes close refutes within search concludes is) = spends_at before from to trees nodes close a size spent refutes search concludes is
      of_searches (nothing stamps refutes is program ends) = absurd (let no : outcomes.SpentExpansions size ≡ outcomes.Nothing = sym spent ∙ is in cc)
