-- A line that leads on from a place: what is known at the next place.
use Rattle.std.proofs.Common.{◌≡◌, ℕ, ◌+◌, ◌<◌, ◌≤◌, List, [], ◌∷◌, ◌++◌, length, map, refl, sym, ◌∙◌, ap, subst, inl, inr, arith, append_assoc}
use Rattle.std.specs.Prelude.{Some, All, codes}
use Rattle.std.proofs.lemmas.Bool.{cases_lt}
use Rattle.std.proofs.lemmas.List.{map-append, append-nil, length_push}
use Rattle.std.proofs.lemmas.List.Elements.{All-nil, All-cons, All-push, All-head, All-tail, All-append}
use Rattle.program_model.specs.declared.instr.Instr.{Instr}
use Rattle.program_model.specs.Program.{Program, empty, IsInstr}
use Rattle.program_model.proofs.Places.{get-append_left, get-append_right}
use Rattle.program_model.proofs.Programs.{length-empty}
use Rattle.program_text.specs.Texts.{instr_text, program_line}
use Rattle.answer_reader.specs.declared.heading.Heading.{Heading}
use Rattle.refutation_tree.specs.declared.ranges.TheConstants.{MAX_STEPS}
use Rattle.refutation_tree.specs.declared.evidence.Mark.{Mark}
use Rattle.refutation_tree.specs.declared.evidence.Mark.TheVariants as marks
use Rattle.refutation_tree.specs.declared.evidence.Tree.{Tree}
use Rattle.flag_rules.specs.Line.{then_number}
use Rattle.answer_writer.specs.Document.{verdict_line, mark_line, ends_lines}
use Rattle.refutation_tree.specs.Grammar.{IsInRange, AreTrees, IsTree}
use Rattle.answer_reader.specs.Inner.Following.{Place, at_form, at_pointers, at_lines, at_instances, at_verdict, at_tree, at_mark, at_program, at_instr, at_ends, at_end, at_rest, answer_of, past_marks, past_ends, past_instrs, MayMark, brought, IsHeading, Leads, LeadOn}
use Rattle.answer_reader.proofs.Places.{AreFirstTrees, IsMarkPlace, IsDefined, IsPlace, lines_to, lines_before, IsAt, ends_more, length-child_programs, at_past_marks, at_past_ends, at_past_instrs}

-- ---- marks

one_mark : (ops : ℕ) (q : Program) (qs : List Program) (mark : Mark) (more : List Mark) → MayMark q mark → AreTrees ops (brought ops q mark ++ qs) more → AreTrees ops (q ∷ qs) (mark ∷ more)
one_mark ops q qs (marks.Split line stamp) more may are = (may, are)
one_mark ops q qs (marks.Unmet t steps) more may are = are
one_mark ops q qs (marks.Loops t from to) more may are = are
one_mark ops q qs marks.Twin more may are = are
one_mark ops q qs marks.Waiting more may are = are
one_mark ops q qs marks.Solved more may are = are
one_mark ops q qs (marks.AtLimit t) more may are = are

brought_sizes : (ops size : ℕ) (q : Program) (mark : Mark) → length q ≡ size → All (λ (p : Program). length p ≡ size) (brought ops q mark)
brought_sizes ops size q (marks.Split line stamp) e = λ k d h. length-child_programs ops q line k d h ∙ e
brought_sizes ops size q (marks.Unmet t steps) e = All-nil (λ (p : Program). length p ≡ size)
brought_sizes ops size q (marks.Loops t from to) e = All-nil (λ (p : Program). length p ≡ size)
brought_sizes ops size q marks.Twin e = All-nil (λ (p : Program). length p ≡ size)
brought_sizes ops size q marks.Waiting e = All-nil (λ (p : Program). length p ≡ size)
brought_sizes ops size q marks.Solved e = All-nil (λ (p : Program). length p ≡ size)
brought_sizes ops size q (marks.AtLimit t) e = All-nil (λ (p : Program). length p ≡ size)

more_marks : (ops : ℕ) (h : Heading) (trees : List Tree) (ms : List Mark) (q : Program) (qs : List Program) (mark : Mark)
    → IsMarkPlace ops h trees ms (q ∷ qs) → IsInRange h.instances mark → MayMark q mark → IsMarkPlace ops h trees (ms ++ mark ∷ []) (brought ops q mark ++ qs)
more_marks ops h trees ms q qs mark known in_range may =
    let P : Program → Type 0 = λ (p : Program). length p ≡ length trees + 1 in
    record {
      place = known.place;
      in_range = All-push (IsInRange h.instances) ms mark known.in_range in_range;
      shape = λ more are. subst (AreTrees ops (empty (length trees + 1) ∷ [])) (sym (append_assoc ms (mark ∷ []) more)) (known.shape (mark ∷ more) (one_mark ops q qs mark more may are));
      sizes = All-append P (brought ops q mark) qs (brought_sizes ops (length trees + 1) q mark (All-head P q qs known.sizes)) (All-tail P q qs known.sizes);
    }

-- ---- instructions

more_defined : (ops size : ℕ) (program : Program) (instr : Instr) → IsInstr ops size (length program) instr → ((line : ℕ) → line < length program → IsDefined ops size program line)
    → (line : ℕ) → line < length (program ++ Some instr ∷ []) → IsDefined ops size (program ++ Some instr ∷ []) line
more_defined ops size program instr allowed each line h = elim (cases_lt line (length program)) [
  | inl below ↦
      let there = each line below in
      record { instr = there.instr; here = get-append_left program (Some instr ∷ []) line below ∙ there.here; allowed = there.allowed }
  | inr above ↦
      let same : line ≡ length program = omega (arith, above, h, length_push program (Some instr)) in
      record {
        instr = instr;
        here = get-append_right program (Some instr ∷ []) 0 line (omega (arith, same));
        allowed = subst (λ (n : ℕ). IsInstr ops size n instr) (sym same) allowed;
      }
]

-- ---- a step

-- where the next place is this one
there : (texts before : List (List ℕ)) (line text : List ℕ) (to next : Place) → text ≡ line → next ≡ to → IsAt texts (before ++ line ∷ []) to → IsAt texts (before ++ text ∷ []) next
there texts before line text to next same is at =
    subst (IsAt texts (before ++ text ∷ [])) (sym is) (subst (λ (t : List ℕ). IsAt texts (before ++ t ∷ []) to) (sym same) at)

pub step : (texts : List (List ℕ)) (place next : Place) (text : List ℕ) → IsPlace (length texts) place → Leads texts place text next → IsAt texts (lines_before texts place ++ text ∷ []) next
step texts at_form next text known leads = there texts [] (codes "bfgp answer 1") text at_pointers next leads.0 leads.1 (record { lines = refl; known = tt })
step texts at_pointers next text known leads =
    there texts (lines_before texts at_pointers) (codes "pointers" ++ then_number leads.0) text (at_lines leads.0) next leads.2 leads.3 (record { lines = refl; known = leads.1 })
step texts (at_lines k) next text known leads =
    there texts (lines_before texts (at_lines k)) (codes "lines" ++ then_number leads.0) text (at_instances k leads.0) next leads.2 leads.3 (record { lines = refl; known = (known, leads.1) })
step texts (at_instances k n) next text known leads =
    there texts (lines_before texts (at_instances k n)) (codes "instances" ++ then_number leads.0) text (at_verdict k n leads.0) next leads.2 leads.3 (record { lines = refl; known = (known.0, known.1, leads.1) })
step texts (at_verdict k n t) next text known leads =
    let h : Heading = record { pointers = k; lines = n; instances = t; outcome = leads.0 } in
    let heading : IsHeading h = record { pointers = known.0; lines = known.1; instances = known.2; told = leads.1 } in
    let first : AreFirstTrees (length texts) h [] = record { heading = heading; sizes = refl; each = All-nil (IsTree (length texts) t) } in
    there texts (lines_before texts (at_verdict k n t)) (verdict_line leads.0) text (at_tree h []) next leads.2 leads.3
    (record { lines = refl; known = record { first = first; more = omega (arith, leads.1.0.0) } })
step texts (at_tree h trees) next text known leads =
    let size : ℕ = length trees + 1 in
    let sizes : All (λ (q : Program). length q ≡ size) (empty size ∷ []) = All-cons (λ (q : Program). length q ≡ size) (empty size) [] (length-empty size (omega arith)) (All-nil (λ (q : Program). length q ≡ size)) in
    there texts (lines_before texts (at_tree h trees)) (codes "tree" ++ then_number size) text (at_mark h trees [] (empty size) []) next leads.0 leads.1
    (record { lines = refl; known = record { place = known; in_range = All-nil (IsInRange h.instances); shape = λ more are. are; sizes = sizes } })
step texts (at_mark h trees ms q qs) next text known leads =
    let mark = leads.0 in
    let tree_line : List ℕ = codes "tree" ++ then_number (length trees + 1) in
    let at = at_past_marks texts h trees (ms ++ mark ∷ []) (brought (length texts) q mark ++ qs) (more_marks (length texts) h trees ms q qs mark known leads.1 leads.2) in
    let lines : lines_to h trees ++ (tree_line ∷ map mark_line (ms ++ mark ∷ [])) ≡ lines_before texts (at_mark h trees ms q qs) ++ mark_line mark ∷ [] =
    ap (λ (l : List (List ℕ)). lines_to h trees ++ (tree_line ∷ l)) (map-append mark_line ms (mark ∷ [])) ∙ sym (append_assoc (lines_to h trees) (tree_line ∷ map mark_line ms) (mark_line mark ∷ [])) in
    there texts (lines_before texts (at_mark h trees ms q qs)) (mark_line mark) text (past_marks h trees (ms ++ mark ∷ []) (brought (length texts) q mark ++ qs)) next leads.3 leads.4
    (subst (λ (l : List (List ℕ)). IsAt texts l (past_marks h trees (ms ++ mark ∷ []) (brought (length texts) q mark ++ qs))) lines at)
step texts (at_program h trees size) next text known leads =
    there texts (lines_to h trees) (codes "program") text (past_instrs h trees size []) next leads.0 leads.1
    (at_past_instrs texts h trees size [] known (omega arith) (λ line h. absurd (omega (arith, h))))
step texts (at_instr h trees size program) next text known leads =
    let instr = leads.0 in
    let at = at_past_instrs texts h trees size (program ++ Some instr ∷ []) known.place (omega (arith, known.few, length_push program (Some instr))) (more_defined (length texts) size program instr leads.1 known.each) in
    let lines : lines_to h trees ++ (codes "program" ∷ map (program_line texts) (program ++ Some instr ∷ [])) ≡ lines_before texts (at_instr h trees size program) ++ instr_text texts instr ∷ [] =
    ap (λ (l : List (List ℕ)). lines_to h trees ++ (codes "program" ∷ l)) (map-append (program_line texts) program (Some instr ∷ []))
    ∙ sym (append_assoc (lines_to h trees) (codes "program" ∷ map (program_line texts) program) (instr_text texts instr ∷ [])) in
    there texts (lines_before texts (at_instr h trees size program)) (instr_text texts instr) text (past_instrs h trees size (program ++ Some instr ∷ [])) next leads.2 leads.3
    (subst (λ (l : List (List ℕ)). IsAt texts l (past_instrs h trees size (program ++ Some instr ∷ []))) lines at)
step texts (at_ends h trees program ends) next text known leads =
    let steps = leads.0 in
    let front : List (List ℕ) = lines_to h trees ++ (codes "program" ∷ map (program_line texts) program) in
    let last : List ℕ = codes "ends" ++ then_number (length ends) ++ then_number steps in
    let at = at_past_ends texts h trees program (ends ++ steps ∷ []) known.place known.is_program (All-push (λ j. j ≤ MAX_STEPS) ends steps known.in_range leads.1) (omega (arith, known.few, length_push ends steps)) in
    let none : 0 + length ends ≡ length ends = omega arith in
    let lines : front ++ ends_lines 0 (ends ++ steps ∷ []) ≡ (front ++ ends_lines 0 ends) ++ last ∷ [] =
    ap (λ (l : List (List ℕ)). front ++ l) (ends_more 0 ends steps ∙ ap (λ (i : ℕ). ends_lines 0 ends ++ (codes "ends" ++ then_number i ++ then_number steps) ∷ []) none)
    ∙ sym (append_assoc front (ends_lines 0 ends) (last ∷ [])) in
    there texts (lines_before texts (at_ends h trees program ends)) last text (past_ends h trees program (ends ++ steps ∷ [])) next leads.2 leads.3
    (subst (λ (l : List (List ℕ)). IsAt texts l (past_ends h trees program (ends ++ steps ∷ []))) lines at)
step texts (at_end h trees program ends) next text known leads =
    there texts (lines_before texts (at_end h trees program ends)) (codes "end of answer") text (at_rest (answer_of h trees program ends)) next leads.0 leads.1 (record { lines = refl; known = known })
step texts (at_rest a) next text known leads = absurd leads

-- the lines before a place, and those that lead on
pub steps : (texts before lines : List (List ℕ)) (place next : Place) → IsAt texts before place → LeadOn texts place lines next → IsAt texts (before ++ lines) next
steps texts before [] place next at same = subst (λ (l : List (List ℕ)). IsAt texts l next) (sym (append-nil before)) (subst (IsAt texts before) same at)
steps texts before (text ∷ lines) place next at lead =
    let once = step texts place lead.0 text at.known lead.1 in
    let on : IsAt texts (before ++ text ∷ []) lead.0 = subst (λ (l : List (List ℕ)). IsAt texts (l ++ text ∷ []) lead.0) at.lines once in
    subst (λ (l : List (List ℕ)). IsAt texts l next) (append_assoc before (text ∷ []) lines) (steps texts (before ++ text ∷ []) lines lead.0 next on lead.2)

-- what the lines from the start lead to
pub from_start : (texts lines : List (List ℕ)) (place : Place) → LeadOn texts at_form lines place → IsAt texts lines place
from_start texts lines place lead = steps texts [] lines at_form place (record { lines = refl; known = tt }) lead
