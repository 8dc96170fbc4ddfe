-- The nodes of a size, in preorder, make a tree: each split node is followed by its children.
use Rattle.std.proofs.Common.{◌≡◌, ℕ, ◌+◌, List, [], ◌∷◌, ◌++◌, map, length, false, true, sym, subst, inl, inr}
use Rattle.std.proofs.lemmas.Bool.{cases_Bool, MatchBool-at_true, MatchBool-at_false}
use Rattle.program_model.specs.declared.instr.Instr.{Instr}
use Rattle.program_model.specs.Alphabet.{alphabet}
use Rattle.program_model.specs.Program.{Program, empty, with_line, IsOpen}
use Rattle.program_model.specs.declared.verdict.Verdict.TheVariants as verdicts
use Rattle.program_model.specs.Verdict.{IsVerdict}
use Rattle.refutation_tree.specs.Covers.{Child, children}
use Rattle.synthesis.specs.Search.{Setting, State, judged, split, twin, Node, IsJudged, IsRoot, AreChildren, Splits, Leads, here, next, Close, SearchesSize}
use Rattle.synthesis.proofs.Lists.{split_at}
use Rattle.synthesis.proofs.Judging.{waiting_is_open}

module _ {C : Type 0} (s : Setting C) where
  -- the children that follow a node of a partial program
  abbrev pub followers : Program → State → List Child
  followers q (judged v) = []
  followers q (split line stamp) = children s.skips s.machine.ops q line
  followers q twin = []

  -- the state of a node is that of a partial program
  abbrev pub HasState : Child → State → Type 0
  HasState c (judged verdict) = IsVerdict s.machine c.program s.limit verdict
  HasState c (split line stamp) = IsOpen c.program line
  HasState c twin = c.skipped ≡ true

  -- the nodes, in preorder, are those of these partial programs, one after another, and of what they were split into
  abbrev pub AreGrown : List Child → List Node → Type 0
  AreGrown [] [] = Unit {0}
  AreGrown (c ∷ cs) (node ∷ nodes) = (node.program ≡ c.program) × HasState c node.state × AreGrown (followers c.program node.state ++ cs) nodes
  AreGrown _ _ = ⊥

  grown_one : (c : Child) (cs : List Child) (node : Node) (rest : List Node) (state : State) → node.program ≡ c.program → node.state ≡ state → HasState c state → AreGrown (followers c.program state ++ cs) rest → AreGrown (c ∷ cs) (node ∷ rest)
  grown_one c cs node rest state program is h k = (program, subst (HasState c) (sym is) h, subst (λ x. AreGrown (followers c.program x ++ cs) rest) (sym is) k)

  grown_judged : (c : Child) (cs : List Child) (node : Node) (rest : List Node) → node.program ≡ c.program → IsJudged s node → AreGrown cs rest → AreGrown (c ∷ cs) (node ∷ rest)
  grown_judged c cs node rest program h k = grown_one c cs node rest (judged h.verdict) program h.state (subst (λ q. IsVerdict s.machine q s.limit h.verdict) program h.is_verdict) k

  made_grown : (parent : Program) (line : ℕ) (instrs : List Instr) (number : ℕ) (made : List Node) (cs : List Child) (rest : List Node) → AreChildren s parent line number instrs made → AreGrown cs rest →
      AreGrown (map (λ instr. record { program = with_line parent line instr; skipped = s.skips parent instr }) instrs ++ cs) (made ++ rest)
  made_grown parent line [] number [] cs rest h k = k
  made_grown parent line [] number (node ∷ nodes) cs rest h k = absurd h
  made_grown parent line (instr ∷ instrs) number [] cs rest h k = absurd h
  made_grown parent line (instr ∷ instrs) number (node ∷ nodes) cs rest h k =
      let later = made_grown parent line instrs (number + 1) nodes cs rest h.1 k in
      elim (cases_Bool (s.skips parent instr)) [
        | inl passed ↦ grown_one _ _ node _ twin h.0.program ((MatchBool-at_true _ _ passed h.0.state).0) passed later
        | inr kept ↦ grown_judged _ _ node _ h.0.program (MatchBool-at_false _ _ kept h.0.state) later
      ]

  split_grown : (before : List Node) (node : Node) (made rest : List Node) (line stamp number : ℕ) (cs : List Child) → node.state ≡ judged (verdicts.Waiting line) → AreChildren s node.program line number (alphabet s.machine.ops (length node.program) line) made →
      AreGrown cs (before ++ node ∷ rest) → AreGrown cs (before ++ (record node { state = split line stamp } ∷ made) ++ rest)
  split_grown [] node made rest line stamp number [] waits h k = absurd k
  split_grown [] node made rest line stamp number (c ∷ cs) waits h k =
      let judgement : HasState c (judged (verdicts.Waiting line)) = subst (HasState c) waits k.1 in
      let later : AreGrown cs rest = subst (λ x. AreGrown (followers c.program x ++ cs) rest) waits k.2 in (
        k.0,
        waiting_is_open s.machine c.program s.limit line judgement,
        subst (λ q. AreGrown (children s.skips s.machine.ops q line ++ cs) (made ++ rest)) k.0
            (made_grown node.program line (alphabet s.machine.ops (length node.program) line) number made cs rest h later),
      )
  split_grown (first ∷ before) node made rest line stamp number [] waits h k = absurd k
  split_grown (first ∷ before) node made rest line stamp number (c ∷ cs) waits h k = (k.0, k.1, split_grown before node made rest line stamp number (followers c.program first.state ++ cs) waits h k.2)

  pub splits_grown : (stamp : ℕ) (old new : List Node) (cs : List Child) → Splits s stamp old new → AreGrown cs old → AreGrown cs new
  splits_grown stamp old new cs h k =
      subst (AreGrown cs) (sym h.after)
      (split_grown _ h.node h.made _ h.line stamp (length old) cs h.waits h.children (subst (AreGrown cs) (split_at old h.place h.node h.here) k))

  pub leads_grown : (budget from : ℕ) (start : List Node) (cs : List Child) (stamp : ℕ) (nodes : List Node) → Leads s budget from start stamp nodes → AreGrown cs start → AreGrown cs nodes
  leads_grown budget from start cs stamp nodes here k = k
  leads_grown budget from start cs stamp nodes (next before old after leads stays splits) k = splits_grown before old nodes cs splits (leads_grown budget from start cs before old leads k)

  -- the empty program of so many lines, alone and not passed over
  abbrev pub empty_alone : ℕ → List Child
  empty_alone size = record { program = empty size; skipped = false } ∷ []

  pub root_grown : (size : ℕ) (root : Node) → IsRoot s size root → AreGrown (empty_alone size) (root ∷ [])
  root_grown size root h = grown_judged (record { program = empty size; skipped = false }) [] root [] h.program h.is_judged tt

  -- the nodes of a size, once it is closed, are those of its empty program
  pub size_grown : (budget size from to : ℕ) (nodes : List Node) (close : Close) → SearchesSize s budget size from to nodes close → AreGrown (empty_alone size) nodes
  size_grown budget size from to nodes close h = leads_grown budget from (h.root ∷ []) (empty_alone size) to nodes h.leads (root_grown size h.root h.is_root)
