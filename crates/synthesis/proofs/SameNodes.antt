-- There is one verdict on a partial program, so a node is fixed by its number and its program.
use Rattle.std.proofs.Common.{◌≡◌, ℕ, ◌+◌, ◌<◌, List, [], ◌∷◌, refl, sym, ◌∙◌, ap, inl, inr}
use Rattle.std.specs.List.{AllByRecursion as Each}
use Rattle.std.proofs.lemmas.Bool.{cases_Bool, MatchBool-at_true, MatchBool-at_false}
use Rattle.program_model.specs.declared.instr.Instr.{Instr}
use Rattle.program_model.specs.Program.{Program, IsPartial}
use Rattle.program_model.specs.declared.verdict.Verdict.{Verdict}
use Rattle.program_model.specs.declared.verdict.Verdict.TheVariants as verdicts
use Rattle.program_model.specs.Verdict.{IsVerdict}
use Rattle.program_model.proofs.Verdicts.{same_verdict}
use Rattle.program_model.proofs.Outcomes.{same_outcomes}
use Rattle.synthesis.specs.Search.{Setting, judged, Node, HasKey, IsJudged, IsRoot, IsChild, AreChildren}

node_by : (x y : Node) → x.number ≡ y.number → x.program ≡ y.program → x.state ≡ y.state → x.key ≡ y.key → x ≡ y
node_by x y number program state key =
    let same : ◌≡◌ {A = Node} (record { number = x.number; program = x.program; state = x.state; key = x.key }) y = rw (number, program, state, key) refl in same

module _ {C : Type 0} (s : Setting C) where
  -- a node of a partial program
  abbrev pub HasPartial : Node → Type 0
  HasPartial node = IsPartial s.machine.ops node.program

  same_key : (q : Program) (k l : List ℕ) (verdict : Verdict) → IsPartial s.machine.ops q → HasKey s q k verdict → HasKey s q l verdict → k ≡ l
  same_key q k l (verdicts.Refused t cause) partial one other = one ∙ sym other
  same_key q k l (verdicts.AtLimit t) partial one other = one ∙ sym other
  same_key q k l (verdicts.Waiting line) partial one other =
      one.2 ∙ ap (s.key_of q) (same_outcomes s.machine s.machine.ops q s.limit partial one.0 other.0 0 one.1 other.1) ∙ sym other.2
  same_key q k l verdicts.Solved partial one other = one ∙ sym other

  same_judged : (x y : Node) → x.number ≡ y.number → x.program ≡ y.program → HasPartial x → IsJudged s x → IsJudged s y → x ≡ y
  same_judged x y number program partial h k =
      let other : IsVerdict s.machine x.program s.limit k.verdict = rw program k.is_verdict in
      let verdict : h.verdict ≡ k.verdict = same_verdict s.machine s.machine.ops x.program s.limit partial (λ t. t < s.machine.instances) h.verdict k.verdict h.is_verdict other in
      let key : HasKey s x.program y.key h.verdict = rw (program, verdict) k.key in
      node_by x y number program (h.state ∙ ap judged verdict ∙ sym k.state) (same_key x.program x.key y.key h.verdict partial h.key key)

  pub same_root : (size : ℕ) (x y : Node) → HasPartial x → IsRoot s size x → IsRoot s size y → x ≡ y
  same_root size x y partial h k = same_judged x y (h.number ∙ sym k.number) (h.program ∙ sym k.program) partial h.is_judged k.is_judged

  same_child : (parent : Program) (line number : ℕ) (instr : Instr) (x y : Node) → HasPartial x → IsChild s parent line number instr x → IsChild s parent line number instr y → x ≡ y
  same_child parent line number instr x y partial h k =
      let numbers = h.numbered ∙ sym k.numbered in
      let programs = h.program ∙ sym k.program in
      elim (cases_Bool (s.skips parent instr)) [
        | inl passed ↦
            let a = MatchBool-at_true _ _ passed h.state in
            let b = MatchBool-at_true _ _ passed k.state in
            node_by x y numbers programs (a.0 ∙ sym b.0) (a.1 ∙ sym b.1)
        | inr kept ↦ same_judged x y numbers programs partial (MatchBool-at_false _ _ kept h.state) (MatchBool-at_false _ _ kept k.state)
      ]

  pub same_children : (parent : Program) (line number : ℕ) (instrs : List Instr) (xs ys : List Node) → Each HasPartial xs → AreChildren s parent line number instrs xs → AreChildren s parent line number instrs ys → xs ≡ ys
  same_children parent line number [] [] [] partial h k = refl
  same_children parent line number [] [] (y ∷ ys) partial h k = absurd k
  same_children parent line number [] (x ∷ xs) ys partial h k = absurd h
  same_children parent line number (instr ∷ instrs) [] ys partial h k = absurd h
  same_children parent line number (instr ∷ instrs) (x ∷ xs) [] partial h k = absurd k
  same_children parent line number (instr ∷ instrs) (x ∷ xs) (y ∷ ys) partial h k =
      rw (same_child parent line number instr x y partial.0 h.0 k.0, same_children parent line (number + 1) instrs xs ys partial.1 h.1 k.1) refl
