-- The lines of a document are lines as they are listed.
use Rattle.std.proofs.Common.{◌≡◌, ℕ, ◌+◌, ◌≤◌, List, [], ◌∷◌, ◌++◌, length, map, flat_map, get_or, length-set, refl, sym, ◌∙◌, ap, subst, arith}
use Rattle.std.specs.Prelude.{All, Option, Some, None, codes}
use Rattle.std.specs.List.{range_with_len}
use Rattle.std.proofs.lemmas.Option.{get_or_from_slice_get}
use Rattle.std.proofs.lemmas.List.{length-map}
use Rattle.std.proofs.lemmas.List.FromFn.{length-range_with_len}
use Rattle.std.proofs.lemmas.List.Elements.{All-nil, All-cons, All-head, All-tail, All-append, All-map}
use Rattle.flag_rules.specs.Line.{then_number}
use Rattle.program_model.specs.declared.alphabet.TheConstants.{MAX_LINES}
use Rattle.program_model.specs.declared.machine.TheConstants.{MAX_INSTANCES}
use Rattle.program_model.specs.declared.instr.Instr.{Instr}
use Rattle.program_model.specs.Alphabet.{alphabet}
use Rattle.program_model.specs.Program.{Program, empty, with_line, IsProgram}
use Rattle.program_model.proofs.Programs.{length-empty}
use Rattle.program_text.specs.Texts.{program_line}
use Rattle.program_text.proofs.Spelled.{line_of_program}
use Rattle.refutation_tree.specs.declared.ranges.TheConstants.{MAX_STEPS}
use Rattle.refutation_tree.specs.declared.evidence.Mark.{Mark}
use Rattle.refutation_tree.specs.declared.evidence.Mark.TheVariants as marks
use Rattle.refutation_tree.specs.declared.evidence.Tree.{Tree}
use Rattle.refutation_tree.specs.declared.evidence.Outcome.{Outcome}
use Rattle.refutation_tree.specs.declared.evidence.Outcome.TheVariants as outcomes
use Rattle.refutation_tree.specs.declared.evidence.Answer.{Answer}
use Rattle.refutation_tree.specs.Grammar.{IsInRange, child_programs, AreTrees, IsTree, last_size, FitsOutcome, IsGrammatical}
use Rattle.answer_writer.specs.Document.{head_lines, verdict_line, mark_line, tree_lines, program_lines, ends_lines, document_lines}
use Rattle.answer_lines.specs.Lines.{SplitsWithin, NamesInstance, IsLine, is_form, is_pointers, is_lines, is_instances, is_verdict, is_tree, is_mark, is_program, is_instr, is_ends, is_end}

-- a program of few enough lines
abbrev IsShort : Program → Type 0
IsShort q = length q ≤ MAX_LINES

-- ---- marks

-- after a mark there are trees for some short programs
record Onward (ops : ℕ) (mark : Mark) (more : List Mark) : Type 0 where
  within : SplitsWithin MAX_LINES mark
  programs : List Program
  short : All IsShort programs
  trees : AreTrees ops programs more

children_short : (ops : ℕ) (q : Program) (line : ℕ) → IsShort q → All IsShort (child_programs ops q line)
children_short ops q line short =
    let instrs : List Instr = alphabet ops (length q) line in
    All-map IsShort (with_line q line) instrs (λ k d h. subst (λ (n : ℕ). n ≤ MAX_LINES) (sym (length-set q line (Some (get_or instrs k d)))) short)

onward : (ops : ℕ) (q : Program) (qs : List Program) (mark : Mark) (more : List Mark) → All IsShort (q ∷ qs) → AreTrees ops (q ∷ qs) (mark ∷ more) → Onward ops mark more
onward ops q qs (marks.Split line stamp) more short are = record {
  within = omega (arith, are.0.within, All-head IsShort q qs short);
  programs = child_programs ops q line ++ qs;
  short = All-append IsShort (child_programs ops q line) qs (children_short ops q line (All-head IsShort q qs short)) (All-tail IsShort q qs short);
  trees = are.1;
}
onward ops q qs (marks.Unmet t steps) more short are = record { within = tt; programs = qs; short = All-tail IsShort q qs short; trees = are }
onward ops q qs (marks.Loops t from to) more short are = record { within = tt; programs = qs; short = All-tail IsShort q qs short; trees = are }
onward ops q qs marks.Twin more short are = record { within = tt; programs = qs; short = All-tail IsShort q qs short; trees = are }
onward ops q qs marks.Waiting more short are = record { within = tt; programs = qs; short = All-tail IsShort q qs short; trees = are }
onward ops q qs marks.Solved more short are = record { within = tt; programs = qs; short = All-tail IsShort q qs short; trees = are }
onward ops q qs (marks.AtLimit t) more short are = record { within = tt; programs = qs; short = All-tail IsShort q qs short; trees = are }

module _ (texts : List (List ℕ)) where
  marks_lines : (ops instances : ℕ) (qs : List Program) (ms : List Mark) → instances ≤ MAX_INSTANCES → All IsShort qs → All (IsInRange instances) ms → AreTrees ops qs ms
      → All (IsLine texts) (map mark_line ms)
  marks_lines ops instances qs [] few short in_range are = All-nil (IsLine texts)
  marks_lines ops instances [] (mark ∷ more) few short in_range are = absurd are
  marks_lines ops instances (q ∷ qs) (mark ∷ more) few short in_range are =
      let next = onward ops q qs mark more short are in
      All-cons (IsLine texts) (mark_line mark) (map mark_line more)
      (is_mark instances mark few (record { written = refl; in_range = All-head (IsInRange instances) mark more in_range; within = next.within }))
      (marks_lines ops instances next.programs more few next.short (All-tail (IsInRange instances) mark more in_range) next.trees)

  -- ---- trees

  trees_lines : (ops instances from : ℕ) (trees : List Tree) → instances ≤ MAX_INSTANCES → 1 ≤ from → from + length trees ≤ MAX_LINES + 1
      → map (λ (tree : Tree). tree.size) trees ≡ range_with_len from (length trees) → All (IsTree ops instances) trees → All (IsLine texts) (flat_map tree_lines trees)
  trees_lines ops instances from [] few one most sizes each = All-nil (IsLine texts)
  trees_lines ops instances from (tree ∷ trees) few one most sizes each =
      let size : tree.size ≡ from = cc in
      let rest : map (λ (t : Tree). t.size) trees ≡ range_with_len (from + 1) (length trees) = cc in
      let here = All-head (IsTree ops instances) tree trees each in
      let short : IsShort (empty tree.size) = omega (arith, size, one, most, length-empty tree.size (omega (arith, size, one))) in
      All-append (IsLine texts) (tree_lines tree) (flat_map tree_lines trees)
      (All-cons (IsLine texts) (codes "tree" ++ then_number tree.size) (map mark_line tree.marks)
      (is_tree tree.size (omega (arith, size, one), omega (arith, size, most)) refl)
      (marks_lines ops instances (empty tree.size ∷ []) tree.marks few (All-cons IsShort (empty tree.size) [] short (All-nil IsShort)) here.in_range here.shape))
      (trees_lines ops instances (from + 1) trees few (omega (arith, one)) (omega (arith, most)) rest (All-tail (IsTree ops instances) tree trees each))

  -- ---- a program and its ends

  instrs_lines : (program : Program) → IsProgram (length texts) program → length program ≤ MAX_LINES → All (IsLine texts) (map (program_line texts) program)
  instrs_lines program is short =
      All-map (IsLine texts) (program_line texts) program (λ k d h.
      let line = line_of_program texts program k is (omega (arith, short)) h in
      is_instr (length program) k line.instr short h line.allowed (ap (program_line texts) (get_or_from_slice_get program k (Some line.instr) d line.there)))

  runs_lines : (t : ℕ) (ends : List ℕ) → t + length ends ≤ MAX_INSTANCES → All (λ j. j ≤ MAX_STEPS) ends → All (IsLine texts) (ends_lines t ends)
  runs_lines t [] few each = All-nil (IsLine texts)
  runs_lines t (steps ∷ ends) few each =
      All-cons (IsLine texts) (codes "ends" ++ then_number t ++ then_number steps) (ends_lines (t + 1) ends)
      (is_ends t steps (omega (arith, few)) (All-head (λ j. j ≤ MAX_STEPS) steps ends each) refl)
      (runs_lines (t + 1) ends (omega (arith, few)) (All-tail (λ j. j ≤ MAX_STEPS) steps ends each))

  no_program_lines : (program : Option Program) → program ≡ None → All (IsLine texts) (program_lines texts program)
  no_program_lines program none = subst (λ (p : Option Program). All (IsLine texts) (program_lines texts p)) (sym none) (All-nil (IsLine texts))

  no_ends_lines : (ends : List ℕ) → ends ≡ [] → All (IsLine texts) (ends_lines 0 ends)
  no_ends_lines ends none = subst (λ (e : List ℕ). All (IsLine texts) (ends_lines 0 e)) (sym none) (All-nil (IsLine texts))

  found_lines : (a : Answer) (outcome : Outcome) → FitsOutcome (length texts) a outcome → last_size a.lines outcome ≤ MAX_LINES → All (IsLine texts) (program_lines texts a.program)
  found_lines a (outcomes.Program size) fits short =
      subst (λ (p : Option Program). All (IsLine texts) (program_lines texts p)) (sym fits.given)
      (All-cons (IsLine texts) (codes "program") (map (program_line texts) fits.program) (is_program refl) (instrs_lines fits.program fits.is_program (omega (arith, fits.size_is, short))))
  found_lines a outcomes.Nothing fits short = no_program_lines a.program fits.0
  found_lines a (outcomes.SpentExpansions size) fits short = no_program_lines a.program fits.0
  found_lines a (outcomes.SpentRun size t) fits short = no_program_lines a.program fits.1.0

  found_ends : (a : Answer) (outcome : Outcome) → FitsOutcome (length texts) a outcome → a.instances ≤ MAX_INSTANCES → All (IsLine texts) (ends_lines 0 a.ends)
  found_ends a (outcomes.Program size) fits few = runs_lines 0 a.ends (omega (arith, few, fits.one_for_each)) fits.in_range
  found_ends a outcomes.Nothing fits few = no_ends_lines a.ends fits.1
  found_ends a (outcomes.SpentExpansions size) fits few = no_ends_lines a.ends fits.1
  found_ends a (outcomes.SpentRun size t) fits few = no_ends_lines a.ends fits.1.1

  names_instance : (a : Answer) (outcome : Outcome) → FitsOutcome (length texts) a outcome → NamesInstance a.instances outcome
  names_instance a (outcomes.Program size) fits = tt
  names_instance a outcomes.Nothing fits = tt
  names_instance a (outcomes.SpentExpansions size) fits = tt
  names_instance a (outcomes.SpentRun size t) fits = fits.0

  -- ---- documents

  heading_lines : (a : Answer) → IsGrammatical (length texts) a → All (IsLine texts) (head_lines a)
  heading_lines a good =
      let P : List ℕ → Type 0 = IsLine texts in
      All-cons P (codes "bfgp answer 1") ((codes "pointers" ++ then_number a.pointers) ∷ (codes "lines" ++ then_number a.lines) ∷ (codes "instances" ++ then_number a.instances) ∷ []) (is_form refl)
      (All-cons P (codes "pointers" ++ then_number a.pointers) ((codes "lines" ++ then_number a.lines) ∷ (codes "instances" ++ then_number a.instances) ∷ []) (is_pointers a.pointers good.pointers refl)
      (All-cons P (codes "lines" ++ then_number a.lines) ((codes "instances" ++ then_number a.instances) ∷ []) (is_lines a.lines good.lines refl)
      (All-cons P (codes "instances" ++ then_number a.instances) [] (is_instances a.instances good.instances refl) (All-nil P))))

  pub are_lines : (a : Answer) → IsGrammatical (length texts) a → All (IsLine texts) (document_lines texts a)
  are_lines a good =
      let P : List ℕ → Type 0 = IsLine texts in
      let count : length a.trees ≡ last_size a.lines a.outcome = sym (length-map a.trees (λ (tree : Tree). tree.size)) ∙ ap length good.sizes ∙ length-range_with_len 1 (last_size a.lines a.outcome) in
      let short : last_size a.lines a.outcome ≤ MAX_LINES = omega (arith, good.size.1, good.lines.1) in
      let trees = trees_lines (length texts) a.instances 1 a.trees good.instances.1 (omega arith) (omega (arith, count, short)) (good.sizes ∙ ap (range_with_len 1) (sym count)) good.trees in
      let verdict : P (verdict_line a.outcome) =
      is_verdict a.lines a.instances a.outcome good.lines.1 good.instances.1 (record { written = refl; size = good.size; instance = names_instance a a.outcome good.outcome }) in
      let told : List (List ℕ) = verdict_line a.outcome ∷ flat_map tree_lines a.trees in
      All-append P (head_lines a ++ told ++ program_lines texts a.program ++ ends_lines 0 a.ends) (codes "end of answer" ∷ [])
      (All-append P (head_lines a ++ told ++ program_lines texts a.program) (ends_lines 0 a.ends)
      (All-append P (head_lines a ++ told) (program_lines texts a.program)
      (All-append P (head_lines a) told (heading_lines a good) (All-cons P (verdict_line a.outcome) (flat_map tree_lines a.trees) verdict trees))
      (found_lines a a.outcome good.outcome short))
      (found_ends a a.outcome good.outcome good.instances.1))
      (All-cons P (codes "end of answer") [] (is_end refl) (All-nil P))
