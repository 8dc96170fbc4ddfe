-- The answer of a search is of the grammar of answers.
use Rattle.std.proofs.Common.{◌≡◌, ℕ, zero, suc, ◌+◌, ◌<◌, ◌≤◌, List, [], ◌∷◌, ◌++◌, map, length, Option, Some, refl, sym, ◌∙◌, ap, subst, arith}
use Rattle.std.specs.Prelude.{All}
use Rattle.std.specs.List.{range_with_len}
use Rattle.std.proofs.lemmas.Option.{none-some, same_Some}
use Rattle.std.proofs.lemmas.List.{map-append}
use Rattle.std.proofs.lemmas.List.Elements.{All-nil, All-cons, All-append}
use Rattle.program_model.specs.declared.instr.Instr.{Instr}
use Rattle.program_model.specs.declared.alphabet.TheConstants.{MAX_LINES}
use Rattle.program_model.specs.declared.machine.TheConstants.{MAX_INSTANCES, MAX_POINTERS}
use Rattle.program_model.specs.Alphabet.{alphabet}
use Rattle.program_model.specs.Program.{Program, with_line, IsPartial, Extends}
use Rattle.program_model.specs.declared.verdict.Cause.TheVariants as causes
use Rattle.program_model.specs.declared.verdict.Verdict.TheVariants as verdicts
use Rattle.program_model.specs.Verdict.{IsVerdict}
use Rattle.program_model.proofs.Runs.{same_end}
use Rattle.refutation_tree.specs.declared.ranges.TheConstants.{MAX_SPLITS, MAX_STEPS}
use Rattle.refutation_tree.specs.declared.evidence.Mark.{Mark}
use Rattle.refutation_tree.specs.declared.evidence.Tree.{Tree}
use Rattle.refutation_tree.specs.declared.evidence.Outcome.{Outcome}
use Rattle.refutation_tree.specs.declared.evidence.Outcome.TheVariants as outcomes
use Rattle.refutation_tree.specs.declared.evidence.Answer.{Answer}
use Rattle.refutation_tree.specs.Accepted.{AreEndsFrom}
use Rattle.refutation_tree.specs.Covers.{Child, children as covered_children}
use Rattle.refutation_tree.specs.Grammar.{IsFromOneTo, IsInRange, AreTrees, IsTree, last_size, FitsOutcome, IsGrammatical}
use Rattle.synthesis.specs.Search.{Setting, State, judged, split, twin, Node, Close, found, run_spent, budget_spent, refuted, solved_program, or_else, first_solved, mark_of, SearchesSize}
use Rattle.synthesis.specs.Answers.{tree_of, RefutesSizes, none, next, Concludes, Searches, closed, nothing, IsAnswer}
use Rattle.synthesis.proofs.Judging.{refused_shown, ended_at}
use Rattle.synthesis.proofs.Growing.{followers, HasState, AreGrown, empty_alone, size_grown}
use Rattle.synthesis.proofs.Marking.{first_limited_within}
use Rattle.synthesis.proofs.FilledPrograms.{found_sized, filled_is_program}
use Rattle.synthesis.proofs.Stamps.{IsStamped, AreStamped, size_stamped}
use Rattle.synthesis.proofs.Ends.{end_extends}

-- ---- the shape of trees

abbrev programs : List Child → List Program
programs cs = map (λ (c : Child). c.program) cs

abbrev marks_of : List Node → List Mark
marks_of nodes = map (λ (node : Node). mark_of node.state) nodes

module _ {C : Type 0} (s : Setting C) where
  children_programs : (q : Program) (line : ℕ) (instrs : List Instr) → programs (map (λ instr. record { program = with_line q line instr; skipped = s.skips q instr }) instrs) ≡ map (with_line q line) instrs
  children_programs q line [] = refl
  children_programs q line (instr ∷ instrs) = ap (λ (qs : List Program). with_line q line instr ∷ qs) (children_programs q line instrs)

  mark_tree : (c : Child) (cs : List Child) (ms : List Mark) (state : State) → HasState s c state → AreTrees s.machine.ops (programs (followers s c.program state ++ cs)) ms → AreTrees s.machine.ops (programs (c ∷ cs)) (mark_of state ∷ ms)
  mark_tree c cs ms (judged (verdicts.Refused t (causes.Unmet steps))) h k = k
  mark_tree c cs ms (judged (verdicts.Refused t (causes.Loops from to))) h k = k
  mark_tree c cs ms (judged (verdicts.AtLimit t)) h k = k
  mark_tree c cs ms (judged (verdicts.Waiting line)) h k = k
  mark_tree c cs ms (judged verdicts.Solved) h k = k
  mark_tree c cs ms (split line stamp) h k = (
    h,
    subst (λ (qs : List Program). AreTrees s.machine.ops qs ms)
        (map-append (λ (d : Child). d.program) (covered_children s.skips s.machine.ops c.program line) cs
        ∙ ap (λ (qs : List Program). qs ++ programs cs) (children_programs c.program line (alphabet s.machine.ops (length c.program) line)))
        k,
  )
  mark_tree c cs ms twin h k = k

  nodes_trees : (nodes : List Node) (cs : List Child) → AreGrown s cs nodes → AreTrees s.machine.ops (programs cs) (marks_of nodes)
  nodes_trees [] [] h = tt
  nodes_trees [] (c ∷ cs) h = absurd h
  nodes_trees (node ∷ nodes) [] h = absurd h
  nodes_trees (node ∷ nodes) (c ∷ cs) h = mark_tree c cs (marks_of nodes) node.state h.1 (nodes_trees nodes (followers s c.program node.state ++ cs) h.2)

-- ---- the numbers of marks

module _ {C : Type 0} (s : Setting C) (budget : ℕ) (splits : budget ≤ MAX_SPLITS) (steps_within : s.limit ≤ MAX_STEPS) where
  mark_in_range : (c : Child) (state : State) → HasState s c state → IsStamped budget state → IsInRange s.machine.instances (mark_of state)
  mark_in_range c (judged (verdicts.Refused t (causes.Unmet steps))) h stamped =
      let few = (refused_shown s.machine c.program s.limit t (causes.Unmet steps) h).0 in
      (h.0, omega arith)
  mark_in_range c (judged (verdicts.Refused t (causes.Loops from to))) h stamped =
      let shown = refused_shown s.machine c.program s.limit t (causes.Loops from to) h in
      let few = shown.0 in
      (h.0, shown.1.before, omega arith)
  mark_in_range c (judged (verdicts.AtLimit t)) h stamped = h.0
  mark_in_range c (judged (verdicts.Waiting line)) h stamped = tt
  mark_in_range c (judged verdicts.Solved) h stamped = tt
  mark_in_range c (split line stamp) h stamped = let below : stamp < budget = stamped in omega arith
  mark_in_range c twin h stamped = tt

  marks_in_range : (nodes : List Node) (cs : List Child) → AreGrown s cs nodes → AreStamped budget nodes → All (IsInRange s.machine.instances) (marks_of nodes)
  marks_in_range [] cs h stamped = All-nil (IsInRange s.machine.instances)
  marks_in_range (node ∷ nodes) [] h stamped = absurd h
  marks_in_range (node ∷ nodes) (c ∷ cs) h stamped =
      All-cons (IsInRange s.machine.instances) (mark_of node.state) (marks_of nodes) (mark_in_range c node.state h.1 stamped.0)
      (marks_in_range nodes (followers s c.program node.state ++ cs) h.2 stamped.1)

  -- the tree of a size that was searched
  size_is_tree : (size from to : ℕ) (nodes : List Node) (close : Close) → SearchesSize s budget size from to nodes close → IsTree s.machine.ops s.machine.instances (tree_of size nodes)
  size_is_tree size from to nodes close h =
      let grown = size_grown s budget size from to nodes close h in
      record {
        in_range = marks_in_range nodes (empty_alone s size) grown (size_stamped s budget size from to nodes close h);
        shape = nodes_trees s nodes (empty_alone s size) grown;
      }

  -- ---- the trees of an answer

  abbrev sizes_of : List Tree → List ℕ
  sizes_of trees = map (λ (tree : Tree). tree.size) trees

  range_more : (from count last : ℕ) → last ≡ from + count → range_with_len from count ++ last ∷ [] ≡ range_with_len from (count + 1)
  range_more from zero last e = let same : last ≡ from = omega arith in ap (λ (n : ℕ). n ∷ []) same
  range_more from (suc count) last e =
      let same : suc (count + 1) ≡ suc count + 1 = omega arith in
      ap (λ (ns : List ℕ). from ∷ ns) (range_more (from + 1) count last (omega arith)) ∙ ap (range_with_len from) same

  one_size_more : (trees : List Tree) (size : ℕ) (nodes : List Node) → sizes_of trees ≡ range_with_len 1 size → sizes_of (trees ++ tree_of (size + 1) nodes ∷ []) ≡ range_with_len 1 (size + 1)
  one_size_more trees size nodes so_far =
      map-append (λ (tree : Tree). tree.size) trees (tree_of (size + 1) nodes ∷ [])
      ∙ ap (λ (ns : List ℕ). ns ++ (size + 1) ∷ []) so_far
      ∙ range_more 1 size (size + 1) (omega arith)

  sizes_in_turn : (size to : ℕ) (trees : List Tree) → RefutesSizes s budget size to trees → sizes_of trees ≡ range_with_len 1 size
  sizes_in_turn size to trees none = refl
  sizes_in_turn size to trees (next before from after earlier nodes refutes search) = one_size_more earlier before nodes (sizes_in_turn before from earlier refutes)

  abbrev Fits : Tree → Type 0
  Fits = IsTree s.machine.ops s.machine.instances

  one_tree_more : (trees : List Tree) (size from to : ℕ) (nodes : List Node) (close : Close) → All Fits trees → SearchesSize s budget size from to nodes close → All Fits (trees ++ tree_of size nodes ∷ [])
  one_tree_more trees size from to nodes close so_far search =
      All-append Fits trees (tree_of size nodes ∷ []) so_far (All-cons Fits (tree_of size nodes) [] (size_is_tree size from to nodes close search) (All-nil Fits))

  trees_fit : (size to : ℕ) (trees : List Tree) → RefutesSizes s budget size to trees → All Fits trees
  trees_fit size to trees none = All-nil Fits
  trees_fit size to trees (next before from after earlier nodes refutes search) = one_tree_more earlier (before + 1) from after nodes refuted (trees_fit before from earlier refutes) search

  -- ---- the program and its ends

  -- the runs of a program all end with the goal met
  abbrev IsSolved : Program → Type 0
  IsSolved q = IsVerdict s.machine q s.limit verdicts.Solved

  first_of_two : (c : Child) (state : State) (q : Program) (later : Option Program) → HasState s c state → (later ≡ Some q → IsSolved q) → or_else (solved_program state c.program) later ≡ Some q → IsSolved q
  first_of_two c (judged (verdicts.Refused at cause)) q later h k e = k e
  first_of_two c (judged (verdicts.AtLimit t)) q later h k e = k e
  first_of_two c (judged (verdicts.Waiting line)) q later h k e = k e
  first_of_two c (judged verdicts.Solved) q later h k e = subst IsSolved (same_Some c.program q e) h
  first_of_two c (split line stamp) q later h k e = k e
  first_of_two c twin q later h k e = k e

  solved_runs : (nodes : List Node) (cs : List Child) (q : Program) → AreGrown s cs nodes → first_solved nodes ≡ Some q → IsSolved q
  solved_runs [] cs q h e = absurd (none-some q e)
  solved_runs (node ∷ nodes) [] q h e = absurd h
  solved_runs (node ∷ nodes) (c ∷ cs) q h e =
      first_of_two c node.state q (first_solved nodes) h.1 (solved_runs nodes (followers s c.program node.state ++ cs) q h.2)
      (subst (λ p. or_else (solved_program node.state p) (first_solved nodes) ≡ Some q) h.0 e)

  ends_count : (p : Program) (js : List ℕ) (t : ℕ) → AreEndsFrom s.machine p t js → t + length js ≡ s.machine.instances
  ends_count p [] t h = omega arith
  ends_count p (j ∷ js) t h = let later = ends_count p js (t + 1) h.2 in omega arith

  ends_within : (q p : Program) (js : List ℕ) (t : ℕ) → IsPartial s.machine.ops q → IsPartial s.machine.ops p → Extends p q → IsSolved q → AreEndsFrom s.machine p t js → All (λ j. j ≤ MAX_STEPS) js
  ends_within q p [] t partial whole extends runs h = All-nil (λ j. j ≤ MAX_STEPS)
  ends_within q p (j ∷ js) t partial whole extends runs h =
      let end = ended_at s.machine q s.limit t runs h.0 in
      let same = same_end s.machine s.machine.ops p t end.0 j 0 0 whole (end_extends s.machine p q t end.0 end.1.1 extends) h.1 in
      let few : end.0 ≤ s.limit = end.1.0 in
      All-cons (λ i. i ≤ MAX_STEPS) j js (omega arith) (ends_within q p js (t + 1) partial whole extends runs h.2)

  -- ---- answers

  -- an answer of this outcome is of the grammar
  of_outcome : (a : Answer) (outcome : Outcome) → a.outcome ≡ outcome → IsFromOneTo MAX_POINTERS a.pointers → IsFromOneTo MAX_LINES a.lines → IsFromOneTo MAX_INSTANCES a.instances
      → IsFromOneTo a.lines (last_size a.lines outcome) → sizes_of a.trees ≡ range_with_len 1 (last_size a.lines outcome) → All (IsTree s.machine.ops a.instances) a.trees → FitsOutcome s.machine.ops a outcome → IsGrammatical s.machine.ops a
  of_outcome a outcome is pointers lines instances size sizes trees fits = record {
    pointers = pointers;
    lines = lines;
    instances = instances;
    size = subst (λ o. IsFromOneTo a.lines (last_size a.lines o)) (sym is) size;
    sizes = subst (λ o. sizes_of a.trees ≡ range_with_len 1 (last_size a.lines o)) (sym is) sizes;
    trees = trees;
    outcome = subst (λ o. FitsOutcome s.machine.ops a o) (sym is) fits;
  }

  module _ (a : Answer) (pointers : IsFromOneTo MAX_POINTERS a.pointers) (lines : IsFromOneTo MAX_LINES a.lines) (instances : IsFromOneTo MAX_INSTANCES a.instances) (machine : a.instances ≡ s.machine.instances) (some : 0 < s.machine.ops) where
    trees_of : (trees : List Tree) → a.trees ≡ trees → All Fits trees → All (IsTree s.machine.ops a.instances) a.trees
    trees_of trees is fit = subst (λ n. All (IsTree s.machine.ops n) a.trees) (sym machine) (subst (All Fits) (sym is) fit)

    closed_grammatical : (size from to : ℕ) (trees : List Tree) (nodes : List Node) (close : Close) → RefutesSizes s budget size from trees → size < a.lines → SearchesSize s budget (size + 1) from to nodes close → Concludes s (size + 1) close a →
        a.trees ≡ trees ++ tree_of (size + 1) nodes ∷ [] → IsGrammatical s.machine.ops a
    closed_grammatical size from to trees nodes (found q) refutes within search concludes is =
        let of_size = found_sized s (size + 1) budget from to nodes q (omega arith) search in
        let it = concludes.1 in
        let program = filled_is_program s.machine.ops q it.0 some of_size.1 it.2 in
        let runs = solved_runs nodes (empty_alone s (size + 1)) q (size_grown s budget (size + 1) from to nodes (found q) search) search.closes in
        let count = ends_count it.0 a.ends 0 it.3 in
        of_outcome a (outcomes.Program (size + 1)) concludes.0 pointers lines instances (omega arith, omega arith)
        (ap sizes_of is ∙ one_size_more trees size nodes (sizes_in_turn size from trees refutes))
        (trees_of _ is (one_tree_more trees (size + 1) from to nodes (found q) (trees_fit size from trees refutes) search))
        (record {
          program = it.0;
          given = it.1;
          is_program = program;
          size_is = it.2.extends.size ∙ of_size.0;
          one_for_each = omega arith;
          in_range = ends_within q it.0 a.ends 0 of_size.1 program.is_partial it.2.extends runs it.3;
        })
    closed_grammatical size from to trees nodes (run_spent t) refutes within search concludes is =
        let grown = size_grown s budget (size + 1) from to nodes (run_spent t) search in
        let below = first_limited_within s nodes (empty_alone s (size + 1)) t grown search.closes.1 in
        of_outcome a (outcomes.SpentRun (size + 1) t) concludes.0 pointers lines instances (omega arith, omega arith)
        (ap sizes_of is ∙ one_size_more trees size nodes (sizes_in_turn size from trees refutes))
        (trees_of _ is (one_tree_more trees (size + 1) from to nodes (run_spent t) (trees_fit size from trees refutes) search))
        (omega arith, (concludes.1, concludes.2))
    closed_grammatical size from to trees nodes budget_spent refutes within search concludes is =
        of_outcome a (outcomes.SpentExpansions (size + 1)) concludes.0 pointers lines instances (omega arith, omega arith)
        (ap sizes_of is ∙ one_size_more trees size nodes (sizes_in_turn size from trees refutes))
        (trees_of _ is (one_tree_more trees (size + 1) from to nodes budget_spent (trees_fit size from trees refutes) search))
        (concludes.1, concludes.2)
    closed_grammatical size from to trees nodes refuted refutes within search concludes is = absurd concludes

    searches_grammatical : Searches s budget a.lines a → IsGrammatical s.machine.ops a
    searches_grammatical (closed size from to trees nodes close refutes within search concludes is) = closed_grammatical size from to trees nodes close refutes within search concludes is
    searches_grammatical (nothing stamps refutes is program ends) =
        of_outcome a outcomes.Nothing is pointers lines instances (lines.0, omega arith) (sizes_in_turn a.lines stamps a.trees refutes) (trees_of a.trees refl (trees_fit a.lines stamps a.trees refutes)) (program, ends)

  pub searched_grammatical : (lines : ℕ) (a : Answer) → 0 < s.machine.ops → IsFromOneTo MAX_POINTERS s.machine.pointers → IsFromOneTo MAX_INSTANCES s.machine.instances → IsFromOneTo MAX_LINES lines → IsAnswer s budget lines a → IsGrammatical s.machine.ops a
  searched_grammatical lines a some pointers instances asked h =
      searches_grammatical a
      (subst (IsFromOneTo MAX_POINTERS) (sym h.pointers) pointers)
      (subst (IsFromOneTo MAX_LINES) (sym h.asked) asked)
      (subst (IsFromOneTo MAX_INSTANCES) (sym h.instances) instances)
      h.instances some
      (subst (λ n. Searches s budget n a) (sym h.asked) h.searches)
