-- The stamps of splits are below the budget.
use Rattle.std.proofs.Common.{ℕ, ◌+◌, ◌<◌, List, [], ◌∷◌, ◌++◌, length, take, drop, sym, subst, inl, inr}
use Rattle.std.specs.List.{AllByRecursion as Each}
use Rattle.std.proofs.lemmas.Bool.{cases_Bool, MatchBool-at_true, MatchBool-at_false}
use Rattle.program_model.specs.declared.instr.Instr.{Instr}
use Rattle.program_model.specs.Alphabet.{alphabet}
use Rattle.program_model.specs.Program.{Program}
use Rattle.refutation_tree.proofs.Lists.{each_left, each_right}
use Rattle.synthesis.specs.Search.{Setting, State, judged, split, twin, Node, AreChildren, Splits, Leads, here, next, Close, SearchesSize}
use Rattle.synthesis.proofs.Lists.{each_both, split_at}

abbrev pub IsStamped : ℕ → State → Type 0
IsStamped budget (judged v) = Unit {0}
IsStamped budget (split line stamp) = stamp < budget
IsStamped budget twin = Unit {0}

abbrev pub AreStamped : ℕ → List Node → Type 0
AreStamped budget nodes = Each (λ (node : Node). IsStamped budget node.state) nodes

module _ {C : Type 0} (s : Setting C) (budget : ℕ) where
  children_stamped : (parent : Program) (line : ℕ) (instrs : List Instr) (number : ℕ) (made : List Node) → AreChildren s parent line number instrs made → AreStamped budget made
  children_stamped parent line [] number [] h = tt
  children_stamped parent line [] number (node ∷ nodes) h = absurd h
  children_stamped parent line (instr ∷ instrs) number [] h = absurd h
  children_stamped parent line (instr ∷ instrs) number (node ∷ nodes) h = (
    elim (cases_Bool (s.skips parent instr)) [
      | inl passed ↦ subst (IsStamped budget) (sym ((MatchBool-at_true _ _ passed h.0.state).0)) tt
      | inr kept ↦ let judging = MatchBool-at_false _ _ kept h.0.state in subst (IsStamped budget) (sym judging.state) tt
    ],
    children_stamped parent line instrs (number + 1) nodes h.1,
  )

  splits_stamped : (stamp : ℕ) (old new : List Node) → stamp < budget → Splits s stamp old new → AreStamped budget old → AreStamped budget new
  splits_stamped stamp old new within h each =
      let Stamped : Node → Type 0 = λ (node : Node). IsStamped budget node.state in
      let parts : AreStamped budget (take h.place old ++ h.node ∷ drop (h.place + 1) old) = subst (AreStamped budget) (split_at old h.place h.node h.here) each in
      let before : AreStamped budget (take h.place old) = each_left Stamped (take h.place old) (h.node ∷ drop (h.place + 1) old) parts in
      let rest : AreStamped budget (h.node ∷ drop (h.place + 1) old) = each_right Stamped (take h.place old) (h.node ∷ drop (h.place + 1) old) parts in
      let made = children_stamped h.node.program h.line (alphabet s.machine.ops (length h.node.program) h.line) _ h.made h.children in
      subst (AreStamped budget) (sym h.after)
      (each_both Stamped (take h.place old ++ (record h.node { state = split h.line stamp } ∷ h.made)) (drop (h.place + 1) old)
      (each_both Stamped (take h.place old) (record h.node { state = split h.line stamp } ∷ h.made) before (within, made))
      rest.1)

  leads_stamped : (from : ℕ) (start : List Node) (stamp : ℕ) (nodes : List Node) → Leads s budget from start stamp nodes → AreStamped budget start → AreStamped budget nodes
  leads_stamped from start stamp nodes here each = each
  leads_stamped from start stamp nodes (next before old after leads stays splits) each = splits_stamped before old nodes stays.3 splits (leads_stamped from start before old leads each)

  -- so they are in every node of a size
  pub size_stamped : (size from to : ℕ) (nodes : List Node) (close : Close) → SearchesSize s budget size from to nodes close → AreStamped budget nodes
  size_stamped size from to nodes close h =
      leads_stamped from (h.root ∷ []) to nodes h.leads (subst (IsStamped budget) (sym h.is_root.is_judged.state) tt, tt)
