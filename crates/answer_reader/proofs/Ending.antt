-- From each place lines lead on to an answer: `o` for each tree that is wanted, operation 0 on each line of a program, and no step for each end.
use Rattle.std.proofs.Common.{◌≡◌, ℕ, zero, suc, ◌+◌, ◌-◌, ◌<◌, ◌≤◌, List, [], ◌∷◌, ◌++◌, length, refl, sym, subst, inl, inr, arith}
use Rattle.std.specs.Prelude.{Option, Some, None, codes}
use Rattle.std.proofs.lemmas.Bool.{cases_lt}
use Rattle.std.proofs.lemmas.List.{length_push}
use Rattle.program_model.specs.declared.instr.Instr.{Instr}
use Rattle.program_model.specs.declared.instr.Instr.TheVariants.{Op, End}
use Rattle.program_model.specs.Program.{Program, empty, IsInstr}
use Rattle.program_model.proofs.Alphabets.{contains_last}
use Rattle.program_text.specs.Texts.{instr_text}
use Rattle.answer_reader.specs.declared.heading.Heading.{Heading}
use Rattle.refutation_tree.specs.declared.evidence.Mark.{Mark}
use Rattle.refutation_tree.specs.declared.evidence.Mark.TheVariants as marks
use Rattle.refutation_tree.specs.declared.evidence.Tree.{Tree}
use Rattle.refutation_tree.specs.declared.evidence.Outcome.{Outcome}
use Rattle.refutation_tree.specs.declared.evidence.Outcome.TheVariants as outcomes
use Rattle.refutation_tree.specs.declared.evidence.Answer.{Answer}
use Rattle.flag_rules.specs.Line.{then_number}
use Rattle.answer_writer.specs.Document.{verdict_line}
use Rattle.refutation_tree.specs.Grammar.{last_size}
use Rattle.answer_reader.specs.Inner.Following.{Place, at_form, at_pointers, at_lines, at_instances, at_verdict, at_tree, at_mark, at_program, at_instr, at_ends, at_end, at_rest, answer_of, past_trees, past_tree, past_marks, past_ends, past_instrs, Leads, LeadOn}
use Rattle.program_model.proofs.Alphabets.{contains_op}
use Rattle.answer_reader.proofs.Places.{IsPlace}
use Rattle.answer_reader.proofs.Whole.{tree_next, trees_end, instr_next, instrs_end, ends_next, ends_end}

-- lines lead on from the place to an answer
pub record CanEnd (texts : List (List ℕ)) (place : Place) : Type 0 where
  pub more : List (List ℕ)
  pub answer : Answer
  pub lead : LeadOn texts place more (at_rest answer)

one_more : (texts : List (List ℕ)) (place next : Place) (text : List ℕ) → Leads texts place text next → CanEnd texts next → CanEnd texts place
one_more texts place next text leads end = record { more = text ∷ end.more; answer = end.answer; lead = (next, leads, end.lead) }

-- the place is one from which lines lead on
same_place : (texts : List (List ℕ)) (place other : Place) → place ≡ other → CanEnd texts other → CanEnd texts place
same_place texts place other same end = subst (CanEnd texts) (sym same) end

first_op : (ops size line : ℕ) → 0 < ops → line < size → (instr : Instr) × IsInstr ops size line instr
first_op ops size line some within = elim (cases_lt (line + 1) size) [
  | inl inner ↦ (Op 0, (contains_op ops size line 0 inner).1 some)
  | inr last ↦ (End, (contains_last ops size line End (omega (arith, last, within))).1 refl)
]

module _ (texts : List (List ℕ)) (some : 0 < length texts) (h : Heading) where
  end_can : (trees : List Tree) (program : Option Program) (ends : List ℕ) → CanEnd texts (at_end h trees program ends)
  end_can trees program ends = record { more = codes "end of answer" ∷ []; answer = answer_of h trees program ends; lead = (at_rest (answer_of h trees program ends), (refl, refl), refl) }

  ends_can : (left : ℕ) (trees : List Tree) (program : Program) (ends : List ℕ) → left + length ends ≡ h.instances → CanEnd texts (past_ends h trees program ends)
  ends_can zero trees program ends all = same_place texts (past_ends h trees program ends) (at_end h trees (Some program) ends) (ends_end h trees program ends (omega (arith, all))) (end_can trees (Some program) ends)
  ends_can (suc left) trees program ends all =
      same_place texts (past_ends h trees program ends) (at_ends h trees program ends) (ends_next h trees program ends (omega (arith, all)))
      (one_more texts (at_ends h trees program ends) (past_ends h trees program (ends ++ 0 ∷ [])) (codes "ends" ++ then_number (length ends) ++ then_number 0) (0, omega arith, refl, refl)
      (ends_can left trees program (ends ++ 0 ∷ []) (omega (arith, length_push ends 0, all))))

  instrs_can : (left : ℕ) (trees : List Tree) (size : ℕ) (program : Program) → left + length program ≡ size → CanEnd texts (past_instrs h trees size program)
  instrs_can zero trees size program all =
      same_place texts (past_instrs h trees size program) (past_ends h trees program []) (instrs_end h trees size program (omega (arith, all))) (ends_can h.instances trees program [] (omega arith))
  instrs_can (suc left) trees size program all =
      let op = first_op (length texts) size (length program) some (omega (arith, all)) in
      same_place texts (past_instrs h trees size program) (at_instr h trees size program) (instr_next h trees size program (omega (arith, all)))
      (one_more texts (at_instr h trees size program) (past_instrs h trees size (program ++ Some op.0 ∷ [])) (instr_text texts op.0) (op.0, op.1, refl, refl)
      (instrs_can left trees size (program ++ Some op.0 ∷ []) (omega (arith, length_push program (Some op.0), all))))

  program_can : (trees : List Tree) (size : ℕ) → CanEnd texts (at_program h trees size)
  program_can trees size = one_more texts (at_program h trees size) (past_instrs h trees size []) (codes "program") (refl, refl) (instrs_can size trees size [] (omega arith))

  trees_can : (trees : List Tree) (outcome : Outcome) → CanEnd texts (past_trees h trees outcome)
  trees_can trees (outcomes.Program size) = program_can trees size
  trees_can trees outcomes.Nothing = end_can trees None []
  trees_can trees (outcomes.SpentExpansions size) = end_can trees None []
  trees_can trees (outcomes.SpentRun size t) = end_can trees None []

  -- the programs that wait for a tree get one, where lines lead on after the last
  marks_can : (trees : List Tree) (ms : List Mark) (pending : List Program) → ((more : List Mark) → CanEnd texts (past_marks h trees more [])) → CanEnd texts (past_marks h trees ms pending)
  marks_can trees ms [] after = after ms
  marks_can trees ms (q ∷ qs) after =
      one_more texts (at_mark h trees ms q qs) (past_marks h trees (ms ++ marks.Waiting ∷ []) qs) (codes "o") (marks.Waiting, tt, tt, refl, refl)
      (marks_can trees (ms ++ marks.Waiting ∷ []) qs after)

  tree_can : (left : ℕ) (trees : List Tree) → left + length trees ≡ last_size h.lines h.outcome → CanEnd texts (past_tree h trees)
  tree_can zero trees all = same_place texts (past_tree h trees) (past_trees h trees h.outcome) (trees_end h trees (omega (arith, all))) (trees_can trees h.outcome)
  tree_can (suc left) trees all =
      let size : ℕ = length trees + 1 in
      let after : (more : List Mark) → CanEnd texts (past_marks h trees more []) = λ more.
      let tree : Tree = record { size = size; marks = more } in
      tree_can left (trees ++ tree ∷ []) (omega (arith, length_push trees tree, all)) in
      same_place texts (past_tree h trees) (at_tree h trees) (tree_next h trees (omega (arith, all)))
      (one_more texts (at_tree h trees) (at_mark h trees [] (empty size) []) (codes "tree" ++ then_number size) (refl, refl) (marks_can trees [] (empty size ∷ []) after))

  at_tree_can : (trees : List Tree) → length trees < last_size h.lines h.outcome → CanEnd texts (at_tree h trees)
  at_tree_can trees more =
      same_place texts (at_tree h trees) (past_tree h trees) (sym (tree_next h trees more))
      (tree_can (last_size h.lines h.outcome - length trees) trees (omega (arith, more)))

  at_mark_can : (trees : List Tree) (ms : List Mark) (q : Program) (qs : List Program) → length trees < last_size h.lines h.outcome → CanEnd texts (at_mark h trees ms q qs)
  at_mark_can trees ms q qs more = marks_can trees ms (q ∷ qs) (λ all.
      let tree : Tree = record { size = length trees + 1; marks = all } in
      tree_can (last_size h.lines h.outcome - (length trees + 1)) (trees ++ tree ∷ []) (omega (arith, length_push trees tree, more)))

verdict_can : (texts : List (List ℕ)) (k n t : ℕ) → 0 < length texts → 1 ≤ n → CanEnd texts (at_verdict k n t)
verdict_can texts k n t some one =
    let h : Heading = record { pointers = k; lines = n; instances = t; outcome = outcomes.Nothing } in
    one_more texts (at_verdict k n t) (at_tree h []) (verdict_line outcomes.Nothing) (outcomes.Nothing, ((one, omega arith), tt), refl, refl) (at_tree_can texts some h [] (omega (arith, one)))

instances_can : (texts : List (List ℕ)) (k n : ℕ) → 0 < length texts → 1 ≤ n → CanEnd texts (at_instances k n)
instances_can texts k n some one = one_more texts (at_instances k n) (at_verdict k n 1) (codes "instances" ++ then_number 1) (1, (omega arith, omega arith), refl, refl) (verdict_can texts k n 1 some one)

lines_can : (texts : List (List ℕ)) (k : ℕ) → 0 < length texts → CanEnd texts (at_lines k)
lines_can texts k some = one_more texts (at_lines k) (at_instances k 1) (codes "lines" ++ then_number 1) (1, (omega arith, omega arith), refl, refl) (instances_can texts k 1 some (omega arith))

pointers_can : (texts : List (List ℕ)) → 0 < length texts → CanEnd texts at_pointers
pointers_can texts some = one_more texts at_pointers (at_lines 1) (codes "pointers" ++ then_number 1) (1, (omega arith, omega arith), refl, refl) (lines_can texts 1 some)

pub can_end : (texts : List (List ℕ)) (place : Place) → 0 < length texts → IsPlace (length texts) place → CanEnd texts place
can_end texts at_form some known = one_more texts at_form at_pointers (codes "bfgp answer 1") (refl, refl) (pointers_can texts some)
can_end texts at_pointers some known = pointers_can texts some
can_end texts (at_lines k) some known = lines_can texts k some
can_end texts (at_instances k n) some known = instances_can texts k n some known.1.0
can_end texts (at_verdict k n t) some known = verdict_can texts k n t some known.1.0
can_end texts (at_tree h trees) some known = at_tree_can texts some h trees known.more
can_end texts (at_mark h trees ms q qs) some known = at_mark_can texts some h trees ms q qs known.place.more
can_end texts (at_program h trees size) some known = program_can texts some h trees size
can_end texts (at_instr h trees size program) some known =
    same_place texts (at_instr h trees size program) (past_instrs h trees size program) (sym (instr_next h trees size program known.few))
    (instrs_can texts some h (size - length program) trees size program (omega (arith, known.few)))
can_end texts (at_ends h trees program ends) some known =
    same_place texts (at_ends h trees program ends) (past_ends h trees program ends) (sym (ends_next h trees program ends known.few))
    (ends_can texts some h (h.instances - length ends) trees program ends (omega (arith, known.few)))
can_end texts (at_end h trees program ends) some known = end_can texts some h trees program ends
can_end texts (at_rest a) some known = record { more = []; answer = a; lead = refl }
