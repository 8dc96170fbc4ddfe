-- The lines of a document lead from the start to its answer.
use Rattle.std.proofs.Common.{◌≡◌, ℕ, ◌+◌, ◌<◌, ◌≤◌, List, [], ◌∷◌, ◌++◌, length, map, flat_map, refl, sym, ◌∙◌, ap, subst, arith, append_assoc}
use Rattle.std.specs.Prelude.{Option, Some, None, IsSome, All, nat_lt, slice_get, option_and_then, codes}
use Rattle.std.specs.List.{range_with_len}
use Rattle.std.proofs.lemmas.Bool.{cond-true, cond-false, lt-ltb, le-ltb}
use Rattle.std.proofs.lemmas.Option.{same_Some}
use Rattle.std.proofs.lemmas.List.{append-nil, length_push}
use Rattle.std.proofs.lemmas.List.Elements.{All-head, All-tail}
use Rattle.program_model.specs.declared.instr.Instr.{Instr}
use Rattle.program_model.specs.Program.{Program, empty, IsInstr, IsProgram}
use Rattle.program_model.proofs.Places.{get-append_right}
use Rattle.program_text.specs.Texts.{instr_text, program_line}
use Rattle.answer_reader.specs.declared.heading.Heading.{Heading}
use Rattle.refutation_tree.specs.declared.ranges.TheConstants.{MAX_STEPS}
use Rattle.refutation_tree.specs.declared.evidence.Mark.{Mark}
use Rattle.refutation_tree.specs.declared.evidence.Mark.TheVariants as marks
use Rattle.refutation_tree.specs.declared.evidence.Tree.{Tree}
use Rattle.refutation_tree.specs.declared.evidence.Outcome.{Outcome}
use Rattle.refutation_tree.specs.declared.evidence.Outcome.TheVariants as outcomes
use Rattle.refutation_tree.specs.declared.evidence.Answer.{Answer}
use Rattle.flag_rules.specs.Line.{then_number}
use Rattle.answer_writer.specs.Document.{head_lines, verdict_line, mark_line, tree_lines, program_lines, ends_lines, document_lines}
use Rattle.refutation_tree.specs.Grammar.{IsInRange, AreTrees, IsTree, last_size, FitsOutcome, IsGrammatical}
use Rattle.answer_reader.specs.Inner.Following.{Place, at_form, at_pointers, at_lines, at_instances, at_verdict, at_tree, at_mark, at_program, at_instr, at_ends, at_end, at_rest, answer_of, past_trees, past_tree, past_marks, past_ends, past_instrs, MayMark, brought, MayBeTold, LeadOn}
use Rattle.answer_lines.specs.Lines.{NamesInstance}
use Rattle.std.proofs.Common.{length-append}
use Rattle.std.proofs.lemmas.Bool.{false≢true}
use Rattle.std.proofs.lemmas.List.{length-map}
use Rattle.std.proofs.lemmas.List.FromFn.{length-range_with_len}
use Rattle.answer_reader.proofs.Places.{IsDefined}

-- ---- lines one after another

pub lead_append : (texts xs ys : List (List ℕ)) (from through to : Place) → LeadOn texts from xs through → LeadOn texts through ys to → LeadOn texts from (xs ++ ys) to
lead_append texts [] ys from through to one two = subst (λ (p : Place). LeadOn texts p ys to) (sym one) two
lead_append texts (x ∷ xs) ys from through to one two = (one.0, one.1, lead_append texts xs ys one.0 through to one.2 two)

from_same : (texts lines : List (List ℕ)) (from other to : Place) → from ≡ other → LeadOn texts other lines to → LeadOn texts from lines to
from_same texts lines from other to same lead = subst (λ (p : Place). LeadOn texts p lines to) (sym same) lead

to_same : (texts lines : List (List ℕ)) (from to other : Place) → to ≡ other → LeadOn texts from lines to → LeadOn texts from lines other
to_same texts lines from to other same lead = subst (LeadOn texts from lines) same lead

-- ---- places by what is left

module _ (h : Heading) where
  pub tree_next : (trees : List Tree) → length trees < last_size h.lines h.outcome → past_tree h trees ≡ at_tree h trees
  tree_next trees more = cond-true (nat_lt (length trees) (last_size h.lines h.outcome)) (at_tree h trees) (past_trees h trees h.outcome) (lt-ltb (length trees) (last_size h.lines h.outcome) more)

  pub trees_end : (trees : List Tree) → last_size h.lines h.outcome ≤ length trees → past_tree h trees ≡ past_trees h trees h.outcome
  trees_end trees none = cond-false (nat_lt (length trees) (last_size h.lines h.outcome)) (at_tree h trees) (past_trees h trees h.outcome) (le-ltb (length trees) (last_size h.lines h.outcome) none)

  pub instr_next : (trees : List Tree) (size : ℕ) (program : Program) → length program < size → past_instrs h trees size program ≡ at_instr h trees size program
  instr_next trees size program more = cond-true (nat_lt (length program) size) (at_instr h trees size program) (past_ends h trees program []) (lt-ltb (length program) size more)

  pub instrs_end : (trees : List Tree) (size : ℕ) (program : Program) → size ≤ length program → past_instrs h trees size program ≡ past_ends h trees program []
  instrs_end trees size program none = cond-false (nat_lt (length program) size) (at_instr h trees size program) (past_ends h trees program []) (le-ltb (length program) size none)

  pub ends_next : (trees : List Tree) (program : Program) (ends : List ℕ) → length ends < h.instances → past_ends h trees program ends ≡ at_ends h trees program ends
  ends_next trees program ends more = cond-true (nat_lt (length ends) h.instances) (at_ends h trees program ends) (at_end h trees (Some program) ends) (lt-ltb (length ends) h.instances more)

  pub ends_end : (trees : List Tree) (program : Program) (ends : List ℕ) → h.instances ≤ length ends → past_ends h trees program ends ≡ at_end h trees (Some program) ends
  ends_end trees program ends none = cond-false (nat_lt (length ends) h.instances) (at_ends h trees program ends) (at_end h trees (Some program) ends) (le-ltb (length ends) h.instances none)

-- ---- the parts of a document

-- a mark of trees: it may be one of the first program, and what it brings has trees
may_mark : (ops : ℕ) (q : Program) (qs : List Program) (mark : Mark) (more : List Mark) → AreTrees ops (q ∷ qs) (mark ∷ more) → MayMark q mark × AreTrees ops (brought ops q mark ++ qs) more
may_mark ops q qs (marks.Split line stamp) more are = (are.0, are.1)
may_mark ops q qs (marks.Unmet t steps) more are = (tt, are)
may_mark ops q qs (marks.Loops t from to) more are = (tt, are)
may_mark ops q qs marks.Twin more are = (tt, are)
may_mark ops q qs marks.Waiting more are = (tt, are)
may_mark ops q qs marks.Solved more are = (tt, are)
may_mark ops q qs (marks.AtLimit t) more are = (tt, are)

some_line : (o : Option (Option Instr)) → IsSome (option_and_then (λ (i : Option Instr). i) o) → (instr : Instr) × (o ≡ Some (Some instr))
some_line None e = absurd (false≢true e)
some_line (Some None) e = absurd (false≢true e)
some_line (Some (Some instr)) e = (instr, refl)

-- each line of a program is defined
every_line : (ops size : ℕ) (program : Program) → length program ≡ size → IsProgram ops program → (line : ℕ) → line < length program → IsDefined ops size program line
every_line ops size program is is_program line within =
    let found = some_line (slice_get program line) (is_program.whole line within) in
    record {
      instr = found.0;
      here = found.1;
      allowed = subst (λ (n : ℕ). IsInstr ops n line found.0) is (is_program.is_partial.each line found.0 (ap (option_and_then (λ (i : Option Instr). i)) found.1));
    }

module _ (texts : List (List ℕ)) (h : Heading) where
  marks_lead : (trees : List Tree) (ms : List Mark) (pending : List Program) (more : List Mark) → All (IsInRange h.instances) more → AreTrees (length texts) pending more
      → LeadOn texts (past_marks h trees ms pending) (map mark_line more) (past_marks h trees (ms ++ more) [])
  marks_lead trees ms [] [] in_range are = ap (λ (l : List Mark). past_marks h trees l []) (sym (append-nil ms))
  marks_lead trees ms (q ∷ qs) [] in_range are = absurd are
  marks_lead trees ms [] (mark ∷ more) in_range are = absurd are
  marks_lead trees ms (q ∷ qs) (mark ∷ more) in_range are =
      let may = may_mark (length texts) q qs mark more are in
      let next : Place = past_marks h trees (ms ++ mark ∷ []) (brought (length texts) q mark ++ qs) in
      let rest = marks_lead trees (ms ++ mark ∷ []) (brought (length texts) q mark ++ qs) more (All-tail (IsInRange h.instances) mark more in_range) may.1 in
      let all = to_same texts (map mark_line more) next (past_marks h trees ((ms ++ mark ∷ []) ++ more) []) (past_marks h trees (ms ++ (mark ∷ more)) [])
      (ap (λ (l : List Mark). past_marks h trees l []) (append_assoc ms (mark ∷ []) more)) rest in
      (next, (mark, All-head (IsInRange h.instances) mark more in_range, may.0, refl, refl), all)

  trees_lead : (trees rest : List Tree) → map (λ (tree : Tree). tree.size) rest ≡ range_with_len (length trees + 1) (length rest) → All (IsTree (length texts) h.instances) rest
      → length trees + length rest ≡ last_size h.lines h.outcome → LeadOn texts (past_tree h trees) (flat_map tree_lines rest) (past_trees h (trees ++ rest) h.outcome)
  trees_lead trees [] sizes each all = trees_end h trees (omega (arith, all)) ∙ ap (λ (l : List Tree). past_trees h l h.outcome) (sym (append-nil trees))
  trees_lead trees (tree ∷ rest) sizes each all =
      let size : tree.size ≡ length trees + 1 = cc in
      let made : Tree = record { size = length trees + 1; marks = tree.marks } in
      let is : made ≡ tree = ap (λ (n : ℕ). let made : Tree = record { size = n; marks = tree.marks } in made) (sym size) in
      let here = All-head (IsTree (length texts) h.instances) tree rest each in
      let shape : AreTrees (length texts) (empty (length trees + 1) ∷ []) tree.marks = subst (λ (n : ℕ). AreTrees (length texts) (empty n ∷ []) tree.marks) size here.shape in
      let count : length (trees ++ tree ∷ []) ≡ length trees + 1 = length_push trees tree in
      let sizes_after : map (λ (t : Tree). t.size) rest ≡ range_with_len (length trees + 1 + 1) (length rest) = cc in
      let marks_on = marks_lead trees [] (empty (length trees + 1) ∷ []) tree.marks here.in_range shape in
      let after = trees_lead (trees ++ tree ∷ []) rest (sizes_after ∙ ap (λ (n : ℕ). range_with_len (n + 1) (length rest)) (sym count))
      (All-tail (IsTree (length texts) h.instances) tree rest each) (omega (arith, count, all)) in
      let after_same : LeadOn texts (past_tree h (trees ++ tree ∷ [])) (flat_map tree_lines rest) (past_trees h (trees ++ (tree ∷ rest)) h.outcome) =
      to_same texts (flat_map tree_lines rest) (past_tree h (trees ++ tree ∷ [])) (past_trees h ((trees ++ tree ∷ []) ++ rest) h.outcome) (past_trees h (trees ++ (tree ∷ rest)) h.outcome)
      (ap (λ (l : List Tree). past_trees h l h.outcome) (append_assoc trees (tree ∷ []) rest)) after in
      let joined : LeadOn texts (past_tree h (trees ++ made ∷ [])) (flat_map tree_lines rest) (past_trees h (trees ++ (tree ∷ rest)) h.outcome) =
      from_same texts (flat_map tree_lines rest) (past_tree h (trees ++ made ∷ [])) (past_tree h (trees ++ tree ∷ [])) (past_trees h (trees ++ (tree ∷ rest)) h.outcome) (ap (λ (t : Tree). past_tree h (trees ++ t ∷ [])) is) after_same in
      let first : LeadOn texts (at_tree h trees) ((codes "tree" ++ then_number tree.size) ∷ map mark_line tree.marks) (past_tree h (trees ++ made ∷ [])) =
      (at_mark h trees [] (empty (length trees + 1)) [], (ap (λ (n : ℕ). codes "tree" ++ then_number n) size, refl), marks_on) in
      from_same texts (flat_map tree_lines (tree ∷ rest)) (past_tree h trees) (at_tree h trees) (past_trees h (trees ++ (tree ∷ rest)) h.outcome) (tree_next h trees (omega (arith, all)))
      (lead_append texts (tree_lines tree) (flat_map tree_lines rest) (at_tree h trees) (past_tree h (trees ++ made ∷ [])) (past_trees h (trees ++ (tree ∷ rest)) h.outcome) first joined)

  instrs_lead : (trees : List Tree) (size : ℕ) (program rest : Program) → length program + length rest ≡ size → ((line : ℕ) → line < length (program ++ rest) → IsDefined (length texts) size (program ++ rest) line)
      → LeadOn texts (past_instrs h trees size program) (map (program_line texts) rest) (past_ends h trees (program ++ rest) [])
  instrs_lead trees size program [] all each = instrs_end h trees size program (omega (arith, all)) ∙ ap (λ (p : Program). past_ends h trees p []) (sym (append-nil program))
  instrs_lead trees size program (o ∷ rest) all each =
      let line : ℕ = length program in
      let at = each line (omega (arith, length-append program (o ∷ rest))) in
      let same_line : o ≡ Some at.instr = same_Some o (Some at.instr) (sym (get-append_right program (o ∷ rest) 0 line (omega arith)) ∙ at.here) in
      let assoc = append_assoc program (o ∷ []) rest in
      let after = instrs_lead trees size (program ++ o ∷ []) rest (omega (arith, length_push program o, all)) (subst (λ (p : Program). (k : ℕ) → k < length p → IsDefined (length texts) size p k) (sym assoc) each) in
      let lead : LeadOn texts (past_instrs h trees size (program ++ o ∷ [])) (map (program_line texts) rest) (past_ends h trees (program ++ (o ∷ rest)) []) =
      to_same texts (map (program_line texts) rest) (past_instrs h trees size (program ++ o ∷ [])) (past_ends h trees ((program ++ o ∷ []) ++ rest) []) (past_ends h trees (program ++ (o ∷ rest)) [])
      (ap (λ (p : Program). past_ends h trees p []) assoc) after in
      let told : program_line texts o ≡ instr_text texts at.instr = ap (program_line texts) same_line in
      let next : past_instrs h trees size (program ++ o ∷ []) ≡ past_instrs h trees size (program ++ Some at.instr ∷ []) = ap (λ (i : Option Instr). past_instrs h trees size (program ++ i ∷ [])) same_line in
      from_same texts (map (program_line texts) (o ∷ rest)) (past_instrs h trees size program) (at_instr h trees size program) (past_ends h trees (program ++ (o ∷ rest)) []) (instr_next h trees size program (omega (arith, all)))
      (past_instrs h trees size (program ++ o ∷ []), (at.instr, at.allowed, told, next), lead)

  ends_lead : (trees : List Tree) (program : Program) (ends rest : List ℕ) → length ends + length rest ≡ h.instances → All (λ j. j ≤ MAX_STEPS) rest
      → LeadOn texts (past_ends h trees program ends) (ends_lines (length ends) rest) (at_end h trees (Some program) (ends ++ rest))
  ends_lead trees program ends [] all in_range = ends_end h trees program ends (omega (arith, all)) ∙ ap (λ (l : List ℕ). at_end h trees (Some program) l) (sym (append-nil ends))
  ends_lead trees program ends (j ∷ rest) all in_range =
      let count : length (ends ++ j ∷ []) ≡ length ends + 1 = length_push ends j in
      let after = ends_lead trees program (ends ++ j ∷ []) rest (omega (arith, count, all)) (All-tail (λ i. i ≤ MAX_STEPS) j rest in_range) in
      let numbered : LeadOn texts (past_ends h trees program (ends ++ j ∷ [])) (ends_lines (length ends + 1) rest) (at_end h trees (Some program) ((ends ++ j ∷ []) ++ rest)) =
      subst (λ (t : ℕ). LeadOn texts (past_ends h trees program (ends ++ j ∷ [])) (ends_lines t rest) (at_end h trees (Some program) ((ends ++ j ∷ []) ++ rest))) count after in
      let lead : LeadOn texts (past_ends h trees program (ends ++ j ∷ [])) (ends_lines (length ends + 1) rest) (at_end h trees (Some program) (ends ++ (j ∷ rest))) =
      to_same texts (ends_lines (length ends + 1) rest) (past_ends h trees program (ends ++ j ∷ [])) (at_end h trees (Some program) ((ends ++ j ∷ []) ++ rest)) (at_end h trees (Some program) (ends ++ (j ∷ rest)))
      (ap (λ (l : List ℕ). at_end h trees (Some program) l) (append_assoc ends (j ∷ []) rest)) numbered in
      from_same texts (ends_lines (length ends) (j ∷ rest)) (past_ends h trees program ends) (at_ends h trees program ends) (at_end h trees (Some program) (ends ++ (j ∷ rest))) (ends_next h trees program ends (omega (arith, all)))
      (past_ends h trees program (ends ++ j ∷ []), (j, All-head (λ i. i ≤ MAX_STEPS) j rest in_range, refl, refl), lead)

  -- nothing stands there where no program was found
  no_end_lead : (trees : List Tree) (program : Option Program) (ends : List ℕ) → program ≡ None → ends ≡ []
      → LeadOn texts (at_end h trees None []) (program_lines texts program ++ ends_lines 0 ends) (at_end h trees program ends)
  no_end_lead trees program ends none empty_ends =
      let there : LeadOn texts (at_end h trees None []) (program_lines texts None ++ ends_lines 0 []) (at_end h trees None []) = refl in
      subst (λ (p : Option Program). LeadOn texts (at_end h trees None []) (program_lines texts p ++ ends_lines 0 ends) (at_end h trees p ends)) (sym none)
      (subst (λ (l : List ℕ). LeadOn texts (at_end h trees None []) (program_lines texts None ++ ends_lines 0 l) (at_end h trees None l)) (sym empty_ends) there)

  -- the lines after all trees, but for the last
  end_lead : (trees : List Tree) (program : Option Program) (ends : List ℕ) (outcome : Outcome) → FitsOutcome (length texts) (answer_of h trees program ends) outcome
      → LeadOn texts (past_trees h trees outcome) (program_lines texts program ++ ends_lines 0 ends) (at_end h trees program ends)
  end_lead trees program ends (outcomes.Program size) fits =
      let each : (line : ℕ) → line < length fits.program → IsDefined (length texts) size fits.program line = every_line (length texts) size fits.program fits.size_is fits.is_program in
      let instrs = instrs_lead trees size [] fits.program (omega (arith, fits.size_is)) each in
      let ends_on = ends_lead trees fits.program [] ends (omega (arith, fits.one_for_each)) fits.in_range in
      let first : LeadOn texts (at_program h trees size) (codes "program" ∷ map (program_line texts) fits.program) (past_ends h trees fits.program []) = (past_instrs h trees size [], (refl, refl), instrs) in
      let whole = lead_append texts (codes "program" ∷ map (program_line texts) fits.program) (ends_lines 0 ends) (at_program h trees size) (past_ends h trees fits.program []) (at_end h trees (Some fits.program) ends) first ends_on in
      subst (λ (p : Option Program). LeadOn texts (at_program h trees size) (program_lines texts p ++ ends_lines 0 ends) (at_end h trees p ends)) (sym fits.given) whole
  end_lead trees program ends outcomes.Nothing fits = no_end_lead trees program ends fits.0 fits.1
  end_lead trees program ends (outcomes.SpentExpansions size) fits = no_end_lead trees program ends fits.0 fits.1
  end_lead trees program ends (outcomes.SpentRun size t) fits = no_end_lead trees program ends fits.1.0 fits.1.1

-- ---- the whole

abbrev pub heading_of : Answer → Heading
heading_of a = record { pointers = a.pointers; lines = a.lines; instances = a.instances; outcome = a.outcome }

-- the instance that an outcome names is one of the answer's
named_instance : (ops : ℕ) (a : Answer) (outcome : Outcome) → FitsOutcome ops a outcome → NamesInstance a.instances outcome
named_instance ops a (outcomes.Program size) fits = tt
named_instance ops a outcomes.Nothing fits = tt
named_instance ops a (outcomes.SpentExpansions size) fits = tt
named_instance ops a (outcomes.SpentRun size t) fits = fits.0

-- the lines of a document lead from the start to its answer
pub document_leads : (texts : List (List ℕ)) (a : Answer) → IsGrammatical (length texts) a → LeadOn texts at_form (document_lines texts a) (at_rest a)
document_leads texts a is =
    let h : Heading = heading_of a in
    let count : length a.trees ≡ last_size a.lines a.outcome =
    sym (length-map a.trees (λ (tree : Tree). tree.size)) ∙ ap length is.sizes ∙ length-range_with_len 1 (last_size a.lines a.outcome) in
    let told : MayBeTold a.lines a.instances a.outcome = (is.size, named_instance (length texts) a a.outcome is.outcome) in
    let trees = trees_lead texts h [] a.trees (is.sizes ∙ ap (range_with_len 1) (sym count)) is.trees (omega (arith, count)) in
    let from_trees : LeadOn texts (at_tree h []) (flat_map tree_lines a.trees) (past_trees h a.trees a.outcome) =
    subst (λ (p : Place). LeadOn texts p (flat_map tree_lines a.trees) (past_trees h a.trees a.outcome)) (tree_next h [] (omega (arith, is.size.0))) trees in
    let heading : LeadOn texts at_form (head_lines a ++ (verdict_line a.outcome ∷ flat_map tree_lines a.trees)) (past_trees h a.trees a.outcome) = (
      at_pointers,
      (refl, refl),
      (
        at_lines a.pointers,
        (a.pointers, is.pointers, refl, refl),
        (
          at_instances a.pointers a.lines,
          (a.lines, is.lines, refl, refl),
          (
            at_verdict a.pointers a.lines a.instances,
            (a.instances, is.instances, refl, refl),
            (at_tree h [], (a.outcome, told, refl, refl), from_trees),
          ),
        ),
      ),
    ) in
    let front : List (List ℕ) = head_lines a ++ (verdict_line a.outcome ∷ flat_map tree_lines a.trees) in
    let end = end_lead texts h a.trees a.program a.ends a.outcome is.outcome in
    let last : LeadOn texts (at_end h a.trees a.program a.ends) (codes "end of answer" ∷ []) (at_rest a) = (at_rest a, (refl, refl), refl) in
    let all = lead_append texts front (program_lines texts a.program ++ ends_lines 0 a.ends) at_form (past_trees h a.trees a.outcome) (at_end h a.trees a.program a.ends) heading end in
    let grouped : LeadOn texts at_form ((front ++ program_lines texts a.program) ++ ends_lines 0 a.ends) (at_end h a.trees a.program a.ends) =
    subst (λ (l : List (List ℕ)). LeadOn texts at_form l (at_end h a.trees a.program a.ends)) (sym (append_assoc front (program_lines texts a.program) (ends_lines 0 a.ends))) all in
    lead_append texts ((front ++ program_lines texts a.program) ++ ends_lines 0 a.ends) (codes "end of answer" ∷ []) at_form (at_end h a.trees a.program a.ends) (at_rest a) grouped last
