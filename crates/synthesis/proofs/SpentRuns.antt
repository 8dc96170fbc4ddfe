-- Where a search met a run at its limit, its answer shows a partial program with such a run.
use Rattle.std.proofs.Common.{◌≡◌, ◌≢◌, ℕ, zero, suc, ◌+◌, ◌<◌, List, [], ◌∷◌, ◌++◌, map, length, Option, Some, None, refl, sym, ◌∙◌, ap, subst, arith}
use Rattle.std.specs.Prelude.{slice_get, option_map}
use Rattle.std.proofs.lemmas.Option.{none-some, same_Some, slice_get-map}
use Rattle.std.proofs.lemmas.List.{map-append}
use Rattle.program_model.specs.declared.instr.Instr.{Instr}
use Rattle.program_model.specs.Alphabet.{alphabet}
use Rattle.program_model.specs.Program.{Program, with_line, IsPartial}
use Rattle.program_model.specs.declared.verdict.Cause.TheVariants as causes
use Rattle.program_model.specs.declared.verdict.Verdict.TheVariants as verdicts
use Rattle.program_model.specs.Verdict.{IsVerdict}
use Rattle.program_model.proofs.Places.{contains_at}
use Rattle.refutation_tree.specs.declared.evidence.Mark.{Mark}
use Rattle.refutation_tree.specs.declared.evidence.Mark.TheVariants as marks
use Rattle.refutation_tree.specs.declared.evidence.Tree.{Tree}
use Rattle.refutation_tree.specs.declared.evidence.Outcome.TheVariants as outcomes
use Rattle.refutation_tree.specs.declared.evidence.Answer.{Answer}
use Rattle.refutation_tree.specs.Covers.{Child}
use Rattle.refutation_tree.specs.Grammar.{child_programs}
use Rattle.refutation_tree.proofs.Lists.{each_at}
use Rattle.synthesis.specs.Search.{Setting, State, judged, split, twin, Node, limited_at, or_else, first_limited, Close, found, run_spent, budget_spent, refuted, SearchesSize, mark_of}
use Rattle.synthesis.specs.Answers.{tree_of, Concludes, Searches, closed, nothing, IsAnswer}
use Rattle.synthesis.specs.Spent.{marked_programs, SpendsRun}
use Rattle.synthesis.proofs.Growing.{followers, HasState, AreGrown, empty_alone, size_grown}
use Rattle.synthesis.proofs.FilledPrograms.{IsSized, nodes_sized, empty_sized}
use Rattle.synthesis.proofs.SpentBudgets.{marks_of, stands_last}
use Rattle.synthesis.proofs.LimitedRuns.{limited_verdict}

-- ---- the first node at its limit

-- the first node at its limit, at its place
record LimitedNode (nodes : List Node) (t : ℕ) : Type 0 where
  place : ℕ
  node : Node
  here : slice_get nodes place ≡ Some node
  limited : node.state ≡ judged (verdicts.AtLimit t)
  first : (earlier other : ℕ) → earlier < place → slice_get (marks_of nodes) earlier ≢ Some (marks.AtLimit other)

limited_state : (state : State) (t : ℕ) → limited_at state ≡ Some t → state ≡ judged (verdicts.AtLimit t)
limited_state (judged (verdicts.Refused at cause)) t e = absurd (none-some t e)
limited_state (judged (verdicts.AtLimit other)) t e = ap (λ i. judged (verdicts.AtLimit i)) (same_Some other t e)
limited_state (judged (verdicts.Waiting line)) t e = absurd (none-some t e)
limited_state (judged verdicts.Solved) t e = absurd (none-some t e)
limited_state (split line stamp) t e = absurd (none-some t e)
limited_state twin t e = absurd (none-some t e)

unlimited_mark : (state : State) (t : ℕ) → limited_at state ≡ None → mark_of state ≢ marks.AtLimit t
unlimited_mark (judged (verdicts.Refused at (causes.Unmet steps))) t e same = cc
unlimited_mark (judged (verdicts.Refused at (causes.Loops from to))) t e same = cc
unlimited_mark (judged (verdicts.AtLimit other)) t e same = none-some other (sym e)
unlimited_mark (judged (verdicts.Waiting line)) t e same = cc
unlimited_mark (judged verdicts.Solved) t e same = cc
unlimited_mark (split line stamp) t e same = cc
unlimited_mark twin t e same = cc

limited_later : (node : Node) (nodes : List Node) (t : ℕ) → limited_at node.state ≡ None → LimitedNode nodes t → LimitedNode (node ∷ nodes) t
limited_later node nodes t unlimited h = record { place = suc h.place; node = h.node; here = h.here; limited = h.limited; first = first }
  where
    first : (earlier other : ℕ) → earlier < suc h.place → slice_get (marks_of (node ∷ nodes)) earlier ≢ Some (marks.AtLimit other)
    first zero other before same = unlimited_mark node.state other unlimited (same_Some (mark_of node.state) (marks.AtLimit other) same)
    first (suc earlier) other before same = h.first earlier other (omega arith) same

limited_of_two : (node : Node) (nodes : List Node) (t : ℕ) → (first_limited nodes ≡ Some t → LimitedNode nodes t) → (o : Option ℕ) → limited_at node.state ≡ o → or_else o (first_limited nodes) ≡ Some t → LimitedNode (node ∷ nodes) t
limited_of_two node nodes t later None is e = limited_later node nodes t is (later e)
limited_of_two node nodes t later (Some i) is e = record { place = 0; node = node; here = refl; limited = limited_state node.state t (is ∙ e); first = λ earlier other before same. absurd (omega arith) }

limited_node : (nodes : List Node) (t : ℕ) → first_limited nodes ≡ Some t → LimitedNode nodes t
limited_node [] t e = absurd (none-some t e)
limited_node (node ∷ nodes) t e = limited_of_two node nodes t (limited_node nodes t) (limited_at node.state) refl e

marked_at : (nodes : List Node) (t : ℕ) (it : LimitedNode nodes t) → slice_get (marks_of nodes) it.place ≡ Some (marks.AtLimit t)
marked_at nodes t it =
    slice_get-map (λ (node : Node). mark_of node.state) nodes it.place
    ∙ ap (option_map (λ (node : Node). mark_of node.state)) it.here
    ∙ ap (λ state. Some (mark_of state)) it.limited

-- ---- the programs of nodes

abbrev programs : List Child → List Program
programs cs = map (λ (c : Child). c.program) cs

module _ {C : Type 0} (s : Setting C) where
  children_programs : (q : Program) (line : ℕ) (instrs : List Instr) → programs (map (λ instr. record { program = with_line q line instr; skipped = s.skips q instr }) instrs) ≡ map (with_line q line) instrs
  children_programs q line [] = refl
  children_programs q line (instr ∷ instrs) = ap (λ (qs : List Program). with_line q line instr ∷ qs) (children_programs q line instrs)

  abbrev stand_for : List Child → List Mark → List Program
  stand_for cs ms = marked_programs s.machine.ops (programs cs) ms

  -- a mark stands for the program of its node, and what follows for those of the others
  mark_stands : (c : Child) (cs : List Child) (ms : List Mark) (state : State) (qs : List Program) → stand_for (followers s c.program state ++ cs) ms ≡ qs → stand_for (c ∷ cs) (mark_of state ∷ ms) ≡ c.program ∷ qs
  mark_stands c cs ms (judged (verdicts.Refused t (causes.Unmet steps))) qs e = ap (λ ps. c.program ∷ ps) e
  mark_stands c cs ms (judged (verdicts.Refused t (causes.Loops from to))) qs e = ap (λ ps. c.program ∷ ps) e
  mark_stands c cs ms (judged (verdicts.AtLimit t)) qs e = ap (λ ps. c.program ∷ ps) e
  mark_stands c cs ms (judged (verdicts.Waiting line)) qs e = ap (λ ps. c.program ∷ ps) e
  mark_stands c cs ms (judged verdicts.Solved) qs e = ap (λ ps. c.program ∷ ps) e
  mark_stands c cs ms (split line stamp) qs e =
      let below : programs (followers s c.program (split line stamp) ++ cs) ≡ child_programs s.machine.ops c.program line ++ programs cs =
      map-append (λ (d : Child). d.program) (followers s c.program (split line stamp)) cs
      ∙ ap (λ (ps : List Program). ps ++ programs cs) (children_programs c.program line (alphabet s.machine.ops (length c.program) line)) in
      ap (λ ps. c.program ∷ ps) (ap (λ ps. marked_programs s.machine.ops ps ms) (sym below) ∙ e)
  mark_stands c cs ms twin qs e = ap (λ ps. c.program ∷ ps) e

  nodes_stand : (nodes : List Node) (cs : List Child) → AreGrown s cs nodes → stand_for cs (marks_of nodes) ≡ map (λ (node : Node). node.program) nodes
  nodes_stand [] [] h = refl
  nodes_stand [] (c ∷ cs) h = absurd h
  nodes_stand (node ∷ nodes) [] h = absurd h
  nodes_stand (node ∷ nodes) (c ∷ cs) h =
      mark_stands c cs (marks_of nodes) node.state (map (λ (n : Node). n.program) nodes) (nodes_stand nodes (followers s c.program node.state ++ cs) h.2)
      ∙ ap (λ q. q ∷ map (λ (n : Node). n.program) nodes) (sym h.0)

  stands_at : (nodes : List Node) (cs : List Child) (place : ℕ) (node : Node) → AreGrown s cs nodes → slice_get nodes place ≡ Some node → slice_get (stand_for cs (marks_of nodes)) place ≡ Some node.program
  stands_at nodes cs place node grown here =
      ap (λ qs. slice_get qs place) (nodes_stand nodes cs grown)
      ∙ slice_get-map (λ (n : Node). n.program) nodes place
      ∙ ap (option_map (λ (n : Node). n.program)) here

  verdict_at : (cs : List Child) (nodes : List Node) (place t : ℕ) (node : Node) → AreGrown s cs nodes → slice_get nodes place ≡ Some node → node.state ≡ judged (verdicts.AtLimit t) → IsVerdict s.machine node.program s.limit (verdicts.AtLimit t)
  verdict_at cs [] place t node h here limited = absurd (none-some node here)
  verdict_at [] (first ∷ nodes) place t node h here limited = absurd h
  verdict_at (c ∷ cs) (first ∷ nodes) zero t node h here limited =
      let same : first ≡ node = same_Some first node here in
      let state : HasState s c (judged (verdicts.AtLimit t)) = subst (HasState s c) (ap (λ (n : Node). n.state) same ∙ limited) h.1 in
      subst (λ q. IsVerdict s.machine q s.limit (verdicts.AtLimit t)) (sym h.0 ∙ ap (λ (n : Node). n.program) same) state
  verdict_at (c ∷ cs) (first ∷ nodes) (suc place) t node h here limited = verdict_at (followers s c.program first.state ++ cs) nodes place t node h.2 here limited

  module _ (budget : ℕ) where
    -- where a size is closed at a run at its limit, a partial program of that size has such a run
    pub record LimitedProgram (size t : ℕ) : Type 0 where
      pub program : Program
      pub is_partial : IsPartial s.machine.ops program
      pub sized : length program ≡ size
      pub is_verdict : IsVerdict s.machine program s.limit (verdicts.AtLimit t)

    pub limited_program : (size from to t : ℕ) (nodes : List Node) → 0 < size → SearchesSize s budget size from to nodes (run_spent t) → LimitedProgram size t
    limited_program size from to t nodes some search =
        let it = limited_node nodes t search.closes.1 in
        let grown = size_grown s budget size from to nodes (run_spent t) search in
        let sized = each_at (λ (node : Node). IsSized s size node.program) nodes it.place it.node it.here (nodes_sized s size nodes (empty_alone s size) grown (empty_sized s size some, tt)) in
        record {
          program = it.node.program;
          is_partial = sized.1;
          sized = sized.0;
          is_verdict = verdict_at (empty_alone s size) nodes it.place t it.node grown it.here it.limited;
        }

    closed_spends : (size from to t : ℕ) (trees : List Tree) (nodes : List Node) (a : Answer) → 0 < size → SearchesSize s budget size from to nodes (run_spent t) → a.trees ≡ trees ++ tree_of size nodes ∷ [] → SpendsRun s.machine s.limit size t a.trees
    closed_spends size from to t trees nodes a some search is =
        let it = limited_node nodes t search.closes.1 in
        let grown = size_grown s budget size from to nodes (run_spent t) search in
        let sized = each_at (λ (node : Node). IsSized s size node.program) nodes it.place it.node it.here (nodes_sized s size nodes (empty_alone s size) grown (empty_sized s size some, tt)) in
        let is_verdict = verdict_at (empty_alone s size) nodes it.place t it.node grown it.here it.limited in
        record {
          program = it.node.program;
          is_partial = sized.1;
          sized = sized.0;
          within = is_verdict.0;
          runs_on = limited_verdict s.machine it.node.program t s.limit is_verdict;
          marked = stands_last (marks.AtLimit t) size a trees nodes is (contains_at (marks_of nodes) it.place (marks.AtLimit t) (marked_at nodes t it));
          first = record { place = it.place; marked = marked_at nodes t it; stands_for = stands_at nodes (empty_alone s size) it.place it.node grown it.here; first = it.first };
        }

    spends_at : (size from to : ℕ) (trees : List Tree) (nodes : List Node) (close : Close) (a : Answer) (spent_size t : ℕ) → a.outcome ≡ outcomes.SpentRun spent_size t → SearchesSize s budget (size + 1) from to nodes close → Concludes s (size + 1) close a →
        a.trees ≡ trees ++ tree_of (size + 1) nodes ∷ [] → SpendsRun s.machine s.limit spent_size t a.trees
    spends_at size from to trees nodes (found q) a spent_size t spent search concludes is = absurd (let no : outcomes.SpentRun spent_size t ≡ outcomes.Program (size + 1) = sym spent ∙ concludes.0 in cc)
    spends_at size from to trees nodes (run_spent at) a spent_size t spent search concludes is =
        let same : outcomes.SpentRun (size + 1) at ≡ outcomes.SpentRun spent_size t = sym concludes.0 ∙ spent in
        let sizes : size + 1 ≡ spent_size = cc in
        let instances : at ≡ t = cc in
        subst (λ n. SpendsRun s.machine s.limit n t a.trees) sizes (subst (λ i. SpendsRun s.machine s.limit (size + 1) i a.trees) instances (closed_spends (size + 1) from to at trees nodes a (omega arith) search is))
    spends_at size from to trees nodes budget_spent a spent_size t spent search concludes is = absurd (let no : outcomes.SpentRun spent_size t ≡ outcomes.SpentExpansions (size + 1) = sym spent ∙ concludes.0 in cc)
    spends_at size from to trees nodes refuted a spent_size t spent search concludes is = absurd concludes

    pub spent_run_shown : (lines size t : ℕ) (a : Answer) → IsAnswer s budget lines a → a.outcome ≡ outcomes.SpentRun size t → SpendsRun s.machine s.limit size t a.trees
    spent_run_shown lines size t a answer spent = of_searches answer.searches
      where
        of_searches : Searches s budget lines a → SpendsRun s.machine s.limit size t a.trees
        of_searches (closed before from to trees nodes close refutes within search concludes is) = spends_at before from to trees nodes close a size t spent search concludes is
        of_searches (nothing stamps refutes is program ends) = absurd (let no : outcomes.SpentRun size t ≡ outcomes.Nothing = sym spent ∙ is in cc)
