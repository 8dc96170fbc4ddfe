-- The fresh work of splits, as sums over the children of one, over the nodes of a size and over its tree.
use Rattle.std.proofs.Common.{◌≡◌, ℕ, ◌+◌, true, false, List, [], ◌∷◌, ◌++◌, map, length, take, drop, refl, sym, ◌∙◌, ap, subst, inl, inr, arith}
use Rattle.std.specs.Prelude.{not, filter, sum_by, slice_get, Some}
use Rattle.std.proofs.lemmas.Bool.{cases_Bool, MatchBool-at_true, MatchBool-at_false}
use Rattle.std.proofs.lemmas.List.{map-append}
use Rattle.std.proofs.lemmas.List.Elements.{filter-append}
use Rattle.std.proofs.lemmas.List.Sums.{sum_by-cons, sum_by-append}
use Rattle.program_model.specs.declared.instr.Instr.{Instr}
use Rattle.program_model.specs.Alphabet.{alphabet}
use Rattle.program_model.specs.Program.{Program, with_line}
use Rattle.program_model.specs.declared.verdict.Cause.TheVariants as causes
use Rattle.program_model.specs.declared.verdict.Verdict.{Verdict}
use Rattle.program_model.specs.declared.verdict.Verdict.TheVariants as verdicts
use Rattle.interpreter.specs.Counts.{RaisedAtMost}
use Rattle.refutation_tree.specs.declared.evidence.Mark.{Mark}
use Rattle.refutation_tree.specs.declared.evidence.Tree.{Tree}
use Rattle.refutation_tree.specs.Covers.{Child}
use Rattle.refutation_tree.specs.Grammar.{child_programs}
use Rattle.synthesis.specs.Search.{Setting, State, judged, split, twin, Node, AreChildren, Close, SearchesSize, mark_of}
use Rattle.synthesis.specs.Answers.{tree_of}
use Rattle.synthesis.specs.FreshWork.{AreStandingSteps, made_for, operations_of_split, copies_of_split, splits_in, splits_made}
use Rattle.synthesis.specs.Inner.Working.{Counts, of_split, work_of, HasWorked, HasWorkedFor}
use Rattle.synthesis.proofs.Lists.{split_at}
use Rattle.synthesis.proofs.Growing.{followers, AreGrown, empty_alone, size_grown}
use Rattle.synthesis.proofs.FreshRuns.{raised_none, raised_twice}

-- ---- the children of a split

module _ {C : Type 0} (s : Setting C) (reached : Program → ℕ → ℕ) (q : Program) (line : ℕ) (work : Program → ℕ) where
  -- the work of the children for some instructions, of those that are not passed over
  abbrev work_for : List Instr → ℕ
  work_for instrs = sum_by work (made_for s reached q line instrs)

  abbrev kept : List Instr → List Instr
  kept instrs = filter (λ instr. not (s.skips q instr)) instrs

  work_of_both : (instrs others : List Instr) → work_for (instrs ++ others) ≡ work_for instrs + work_for others
  work_of_both instrs others =
      ap (λ is. sum_by work (map (with_line q line) is)) (filter-append (λ instr. not (s.skips q instr)) instrs others)
      ∙ ap (sum_by work) (map-append (with_line q line) (kept instrs) (kept others))
      ∙ sum_by-append work (map (with_line q line) (kept instrs)) (map (with_line q line) (kept others))

  -- one child more
  pub split_more : (instrs : List Instr) (instr : Instr) (old mid new : ℕ) → RaisedAtMost (work_for instrs) old mid → RaisedAtMost (work_for (instr ∷ [])) mid new → RaisedAtMost (work_for (instrs ++ instr ∷ [])) old new
  split_more instrs instr old mid new h k =
      subst (λ by. RaisedAtMost by old new) (sym (work_of_both instrs (instr ∷ []))) (raised_twice (work_for instrs) (work_for (instr ∷ [])) old mid new h k)

  -- one that is passed over makes none, and any other its own
  pub passed_work : (instr : Instr) (now : ℕ) → s.skips q instr ≡ true → RaisedAtMost (work_for (instr ∷ [])) now now
  passed_work instr now passed = rw (passed) (raised_none now)

  pub child_work : (instr : Instr) (old new : ℕ) → s.skips q instr ≡ false → RaisedAtMost (work (with_line q line instr)) old new → RaisedAtMost (work_for (instr ∷ [])) old new
  child_work instr old new passes h = rw (passes) (subst (λ by. RaisedAtMost by old new) (plain (work (with_line q line instr))) h)
    where
      plain : (n : ℕ) → n ≡ sum_by (λ m. m) (n ∷ [])
      plain n = omega arith

module _ {C : Type 0} (s : Setting C) where
  -- ---- the nodes of a size

  module _ (work : Program × ℕ → ℕ) where
    work_cons : (node : Node) (nodes : List Node) (state : State) → node.state ≡ state → work_of s work (node ∷ nodes) ≡ of_split s work node.program state + work_of s work nodes
    work_cons node nodes state is = sum_by-cons (λ (node : Node). of_split s work node.program node.state) node nodes ∙ ap (λ x. of_split s work node.program x + work_of s work nodes) is

    work_append : (xs ys : List Node) → work_of s work (xs ++ ys) ≡ work_of s work xs + work_of s work ys
    work_append xs ys = sum_by-append (λ (node : Node). of_split s work node.program node.state) xs ys

    -- children are not split
    children_work : (parent : Program) (line number : ℕ) (instrs : List Instr) (made : List Node) → AreChildren s parent line number instrs made → work_of s work made ≡ 0
    children_work parent line number [] [] h = refl
    children_work parent line number [] (node ∷ nodes) h = absurd h
    children_work parent line number (instr ∷ instrs) [] h = absurd h
    children_work parent line number (instr ∷ instrs) (node ∷ nodes) h =
        let later = children_work parent line (number + 1) instrs nodes h.1 in
        elim (cases_Bool (s.skips parent instr)) [
          | inl passed ↦ omega (arith, later, work_cons node nodes twin (MatchBool-at_true _ _ passed h.0.state).0)
          | inr kept ↦ let judging = MatchBool-at_false _ _ kept h.0.state in omega (arith, later, work_cons node nodes (judged judging.verdict) judging.state)
        ]

    -- a split adds its own work
    split_work : (before rest made : List Node) (node : Node) (verdict : Verdict) (parent : Program) (line stamp number : ℕ) (instrs : List Instr) → node.state ≡ judged verdict → AreChildren s parent line number instrs made →
        work_of s work (before ++ (record node { state = split line stamp } ∷ made) ++ rest) ≡ work_of s work (before ++ node ∷ rest) + work (node.program, line)
    split_work before rest made node verdict parent line stamp number instrs was h =
        let put = record node { state = split line stamp } in
        omega (
          arith,
          work_append (before ++ put ∷ made) rest,
          work_append before (put ∷ made),
          work_cons put made (split line stamp) refl,
          children_work parent line number instrs made h,
          work_append before (node ∷ rest),
          work_cons node rest (judged verdict) was,
        )

  -- the counts rose by no more than the work of the nodes so far, and then by no more than that of the split of one
  module _ (nodes grown made : List Node) (place line stamp number : ℕ) (node : Node) (verdict : Verdict) (parent : Program) (instrs : List Instr) (here : slice_get nodes place ≡ Some node) (was : node.state ≡ judged verdict)
      (children : AreChildren s parent line number instrs made) (is : grown ≡ take place nodes ++ (record node { state = split line stamp } ∷ made) ++ drop (place + 1) nodes) where
    grown_work : (work : Program × ℕ → ℕ) → work_of s work grown ≡ work_of s work nodes + work (node.program, line)
    grown_work work =
        ap (work_of s work) is
        ∙ split_work work (take place nodes) (drop (place + 1) nodes) made node verdict parent line stamp number instrs was children
        ∙ ap (λ (ns : List Node). work_of s work ns + work (node.program, line)) (sym (split_at nodes place node here))

    raised_grown : (work : Program × ℕ → ℕ) (old mid new : ℕ) → RaisedAtMost (work_of s work nodes) old mid → RaisedAtMost (work (node.program, line)) mid new → RaisedAtMost (work_of s work grown) old new
    raised_grown work old mid new h k = subst (λ by. RaisedAtMost by old new) (sym (grown_work work)) (raised_twice (work_of s work nodes) (work (node.program, line)) old mid new h k)

    pub worked_split : (before mid after : Counts) → HasWorked s nodes before mid →
        ((reached : Program → ℕ → ℕ) → AreStandingSteps s.machine s.limit reached → RaisedAtMost (operations_of_split s reached (node.program, line)) mid.acts after.acts) →
        ((reached : Program → ℕ → ℕ) → AreStandingSteps s.machine s.limit reached → RaisedAtMost (copies_of_split s reached (node.program, line)) mid.copies after.copies) →
        HasWorked s grown before after
    worked_split before mid after worked acts copies = λ reached steps. (
      raised_grown (operations_of_split s reached) before.acts mid.acts after.acts (worked reached steps).0 (acts reached steps),
      raised_grown (copies_of_split s reached) before.copies mid.copies after.copies (worked reached steps).1 (copies reached steps),
    )

  -- a root has no work
  pub root_worked : (root : Node) (verdict : Verdict) (before after : Counts) → root.state ≡ judged verdict →
      ((reached : Program → ℕ → ℕ) → AreStandingSteps s.machine s.limit reached → RaisedAtMost 0 before.acts after.acts) →
      ((reached : Program → ℕ → ℕ) → AreStandingSteps s.machine s.limit reached → RaisedAtMost 0 before.copies after.copies) →
      HasWorked s (root ∷ []) before after
  root_worked root verdict before after is acts copies = λ reached steps. (
    subst (λ by. RaisedAtMost by before.acts after.acts) (sym (work_cons (operations_of_split s reached) root [] (judged verdict) is)) (acts reached steps),
    subst (λ by. RaisedAtMost by before.copies after.copies) (sym (work_cons (copies_of_split s reached) root [] (judged verdict) is)) (copies reached steps),
  )

  -- ---- the tree of a size

  abbrev programs : List Child → List Program
  programs cs = map (λ (c : Child). c.program) cs

  abbrev marks_of : List Node → List Mark
  marks_of nodes = map (λ (node : Node). mark_of node.state) nodes

  module _ (reached : Program → ℕ → ℕ) where
    children_programs : (q : Program) (line : ℕ) (instrs : List Instr) → programs (map (λ instr. record { program = with_line q line instr; skipped = s.skips q instr }) instrs) ≡ map (with_line q line) instrs
    children_programs q line [] = refl
    children_programs q line (instr ∷ instrs) = ap (λ (qs : List Program). with_line q line instr ∷ qs) (children_programs q line instrs)

    abbrev splits_for : List Child → List Mark → List (Program × ℕ)
    splits_for cs ms = splits_in s reached (programs cs) ms

    module _ (work : Program × ℕ → ℕ) where
      -- a mark stands for the split of its node, if it is one, and what follows for those of the others
      mark_work : (c : Child) (cs : List Child) (ms : List Mark) (state : State) (later : ℕ) → sum_by work (splits_for (followers s c.program state ++ cs) ms) ≡ later → sum_by work (splits_for (c ∷ cs) (mark_of state ∷ ms)) ≡ of_split s work c.program state + later
      mark_work c cs ms (judged (verdicts.Refused t (causes.Unmet steps))) later e = omega (arith, e)
      mark_work c cs ms (judged (verdicts.Refused t (causes.Loops from to))) later e = omega (arith, e)
      mark_work c cs ms (judged (verdicts.AtLimit t)) later e = omega (arith, e)
      mark_work c cs ms (judged (verdicts.Waiting line)) later e = omega (arith, e)
      mark_work c cs ms (judged verdicts.Solved) later e = omega (arith, e)
      mark_work c cs ms (split line stamp) later e =
          let below : programs (followers s c.program (split line stamp) ++ cs) ≡ child_programs s.machine.ops c.program line ++ programs cs =
          map-append (λ (d : Child). d.program) (followers s c.program (split line stamp)) cs
          ∙ ap (λ (ps : List Program). ps ++ programs cs) (children_programs c.program line (alphabet s.machine.ops (length c.program) line)) in
          sum_by-cons work (c.program, line) (splits_in s reached (child_programs s.machine.ops c.program line ++ programs cs) ms)
          ∙ ap (λ n. work (c.program, line) + n) (ap (λ ps. sum_by work (splits_in s reached ps ms)) (sym below) ∙ e)
      mark_work c cs ms twin later e = omega (arith, e)

      nodes_work : (nodes : List Node) (cs : List Child) → AreGrown s cs nodes → sum_by work (splits_for cs (marks_of nodes)) ≡ work_of s work nodes
      nodes_work [] [] h = refl
      nodes_work [] (c ∷ cs) h = absurd h
      nodes_work (node ∷ nodes) [] h = absurd h
      nodes_work (node ∷ nodes) (c ∷ cs) h =
          mark_work c cs (marks_of nodes) node.state (work_of s work nodes) (nodes_work nodes (followers s c.program node.state ++ cs) h.2)
          ∙ ap (λ q. of_split s work q node.state + work_of s work nodes) (sym h.0)
          ∙ sym (work_cons work node nodes node.state refl)

  -- the tree of a size that was searched has the work of its nodes
  pub closed_worked : (budget size from to : ℕ) (nodes : List Node) (close : Close) (before after : Counts) → SearchesSize s budget size from to nodes close → HasWorked s nodes before after → HasWorkedFor s (tree_of size nodes ∷ []) before after
  closed_worked budget size from to nodes close before after search worked = λ reached steps.
      let same : (work : Program × ℕ → ℕ) → work_of s work nodes ≡ sum_by (λ (tree : Tree). sum_by work (splits_made s reached tree)) (tree_of size nodes ∷ []) = λ work.
      omega (arith, nodes_work reached work nodes (empty_alone s size) (size_grown s budget size from to nodes close search)) in (
        subst (λ by. RaisedAtMost by before.acts after.acts) (same (operations_of_split s reached)) (worked reached steps).0,
        subst (λ by. RaisedAtMost by before.copies after.copies) (same (copies_of_split s reached)) (worked reached steps).1,
      )

  -- ---- the trees of an answer

  pub no_trees : (now : Counts) → HasWorkedFor s [] now now
  no_trees now = λ reached steps. (raised_none now.acts, raised_none now.copies)

  raised_trees : (work : Tree → ℕ) (trees : List Tree) (tree : Tree) (old mid new : ℕ) → RaisedAtMost (sum_by work trees) old mid → RaisedAtMost (sum_by work (tree ∷ [])) mid new → RaisedAtMost (sum_by work (trees ++ tree ∷ [])) old new
  raised_trees work trees tree old mid new h k =
      subst (λ by. RaisedAtMost by old new) (sym (sum_by-append work trees (tree ∷ []))) (raised_twice (sum_by work trees) (sum_by work (tree ∷ [])) old mid new h k)

  pub worked_trees : (trees : List Tree) (tree : Tree) (before mid after : Counts) → HasWorkedFor s trees before mid → HasWorkedFor s (tree ∷ []) mid after → HasWorkedFor s (trees ++ tree ∷ []) before after
  worked_trees trees tree before mid after h k = λ reached steps. (
    raised_trees (λ (one : Tree). sum_by (operations_of_split s reached) (splits_made s reached one)) trees tree before.acts mid.acts after.acts (h reached steps).0 (k reached steps).0,
    raised_trees (λ (one : Tree). sum_by (copies_of_split s reached) (splits_made s reached one)) trees tree before.copies mid.copies after.copies (h reached steps).1 (k reached steps).1,
  )
