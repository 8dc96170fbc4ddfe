-- How many bytes documents have.
use Rattle.std.proofs.Common.{◌≡◌, ℕ, ◌+◌, ◌*◌, ◌≤◌, List, [], ◌∷◌, ◌++◌, length, map, flat_map, All, refl, sym, ◌∙◌, ap, subst, arith}
use Rattle.std.specs.Prelude.{Option, Some, None, codes}
use Rattle.std.specs.List.{range_with_len}
use Rattle.std.proofs.lemmas.Option.{get_or_from_slice_get}
use Rattle.std.proofs.lemmas.List.{length-map}
use Rattle.std.proofs.lemmas.List.FromFn.{length-range_with_len}
use Rattle.std.proofs.lemmas.List.Elements.{All-head, All-tail, All-map}
use Rattle.program_model.specs.declared.alphabet.TheConstants.{MAX_LINES, MAX_OPS}
use Rattle.program_model.specs.declared.machine.TheConstants.{MAX_INSTANCES}
use Rattle.program_model.specs.Program.{Program, IsProgram}
use Rattle.program_text.specs.Names.{AreNames}
use Rattle.program_text.specs.Texts.{program_line}
use Rattle.program_text.proofs.Spelled.{line_of_program}
use Rattle.refutation_tree.specs.declared.ranges.TheConstants.{MAX_STEPS, MAX_SPLITS}
use Rattle.refutation_tree.specs.declared.evidence.Tree.{Tree}
use Rattle.refutation_tree.specs.declared.evidence.Outcome.{Outcome}
use Rattle.refutation_tree.specs.declared.evidence.Outcome.TheVariants as outcomes
use Rattle.refutation_tree.specs.declared.evidence.Answer.{Answer}
use Rattle.refutation_tree.specs.Grammar.{last_size, FitsOutcome, IsGrammatical}
use Rattle.refutation_tree.specs.Splits.{splits_of}
use Rattle.answer_writer.specs.Document.{head_lines, verdict_line, tree_lines, program_lines, ends_lines, document}
use Rattle.answer_lines.specs.Lines.{NamesInstance, is_form, is_pointers, is_lines, is_instances, is_verdict, is_program, is_instr, is_ends, is_end}
use Rattle.answer_lines.proofs.Lengths.{line_fits}
use Rattle.document_length.specs.declared.lengths.TheConstants.{MAX_TEXT_LENGTH, MAX_DOCUMENT_LENGTH}
use Rattle.document_length.proofs.Marks.{most_children}
use Rattle.document_length.proofs.ShortLines.{IsPlainLine, ArePlain, plain_nil, plain_cons, plain_within, size_of, size_append, size_within, plain_size}
use Rattle.document_length.proofs.Trees.{plain_trees}

-- ---- the heading, the verdict and the trees

head_plain : (a : Answer) (ops : ℕ) → IsGrammatical ops a → ArePlain 4 (head_lines a)
head_plain a ops good =
    plain_cons 3 _ _ (is_form refl)
    (plain_cons 2 _ _ (is_pointers a.pointers good.pointers refl)
    (plain_cons 1 _ _ (is_lines a.lines good.lines refl)
    (plain_cons 0 _ _ (is_instances a.instances good.instances refl) plain_nil)))

names_instance : (ops : ℕ) (a : Answer) (outcome : Outcome) → FitsOutcome ops a outcome → NamesInstance a.instances outcome
names_instance ops a (outcomes.Program size) fits = tt
names_instance ops a outcomes.Nothing fits = tt
names_instance ops a (outcomes.SpentExpansions size) fits = tt
names_instance ops a (outcomes.SpentRun size t) fits = fits.0

verdict_plain : (a : Answer) (ops : ℕ) → IsGrammatical ops a → IsPlainLine (verdict_line a.outcome)
verdict_plain a ops good =
    is_verdict a.lines a.instances a.outcome good.lines.1 good.instances.1 (record { written = refl; size = good.size; instance = names_instance ops a a.outcome good.outcome })

trees_plain : (a : Answer) (ops : ℕ) → ops ≤ MAX_OPS → IsGrammatical ops a → ArePlain (2 * MAX_LINES + most_children * splits_of a.trees) (flat_map tree_lines a.trees)
trees_plain a ops few good =
    let count : length a.trees ≡ last_size a.lines a.outcome = sym (length-map a.trees (λ (tree : Tree). tree.size)) ∙ ap length good.sizes ∙ length-range_with_len 1 (last_size a.lines a.outcome) in
    let short : length a.trees ≤ MAX_LINES = omega (arith, count, good.size.1, good.lines.1) in
    plain_within _ _ _ (omega (arith, short))
    (plain_trees ops a.instances few good.instances.1 1 a.trees (omega arith) (omega (arith, short)) (good.sizes ∙ ap (range_with_len 1) (sym count)) good.trees)

-- ---- the program and the ends of its runs

-- a program has a line before it, and each instruction is a line of its own
abbrev most_program_bytes : ℕ
most_program_bytes = 65 + MAX_LINES * (MAX_TEXT_LENGTH + 1)

module _ (texts : List (List ℕ)) (short : All (λ text. length text ≤ MAX_TEXT_LENGTH) texts) where
  instrs_size : (program : Program) → IsProgram (length texts) program → length program ≤ MAX_LINES → size_of (map (program_line texts) program) ≤ MAX_LINES * (MAX_TEXT_LENGTH + 1)
  instrs_size program is few =
      let each : All (λ text. length text ≤ MAX_TEXT_LENGTH) (map (program_line texts) program) =
      All-map (λ text. length text ≤ MAX_TEXT_LENGTH) (program_line texts) program (λ k d h.
      let line = line_of_program texts program k is (omega (arith, few)) h in
      line_fits texts _ MAX_TEXT_LENGTH (omega arith) (λ op within. short op [] within)
      (is_instr (length program) k line.instr few h line.allowed (ap (program_line texts) (get_or_from_slice_get program k (Some line.instr) d line.there)))) in
      omega (arith, size_within MAX_TEXT_LENGTH (map (program_line texts) program) each, length-map program (program_line texts), few)

  no_program_size : (program : Option Program) → program ≡ None → size_of (program_lines texts program) ≤ most_program_bytes
  no_program_size program none = subst (λ (p : Option Program). size_of (program_lines texts p) ≤ most_program_bytes) (sym none) (omega arith)

  program_size : (a : Answer) (outcome : Outcome) → FitsOutcome (length texts) a outcome → last_size a.lines outcome ≤ MAX_LINES → size_of (program_lines texts a.program) ≤ most_program_bytes
  program_size a (outcomes.Program size) fits few =
      subst (λ (p : Option Program). size_of (program_lines texts p) ≤ most_program_bytes) (sym fits.given)
      (omega (
        arith,
        size_append (codes "program" ∷ []) (map (program_line texts) fits.program),
        plain_size 1 (codes "program" ∷ []) (plain_cons 0 (codes "program") [] (is_program refl) plain_nil),
        instrs_size fits.program fits.is_program (omega (arith, fits.size_is, few)),
      ))
  program_size a outcomes.Nothing fits few = no_program_size a.program fits.0
  program_size a (outcomes.SpentExpansions size) fits few = no_program_size a.program fits.0
  program_size a (outcomes.SpentRun size t) fits few = no_program_size a.program fits.1.0

runs_plain : (t : ℕ) (ends : List ℕ) → t + length ends ≤ MAX_INSTANCES → All (λ j. j ≤ MAX_STEPS) ends → ArePlain (length ends) (ends_lines t ends)
runs_plain t [] few each = plain_nil
runs_plain t (steps ∷ ends) few each =
    plain_within (length ends + 1) _ _ (omega arith)
    (plain_cons (length ends) _ _ (is_ends t steps (omega (arith, few)) (All-head (λ j. j ≤ MAX_STEPS) steps ends each) refl)
    (runs_plain (t + 1) ends (omega (arith, few)) (All-tail (λ j. j ≤ MAX_STEPS) steps ends each)))

no_ends_plain : (ends : List ℕ) → ends ≡ [] → ArePlain MAX_INSTANCES (ends_lines 0 ends)
no_ends_plain ends none = subst (λ (e : List ℕ). ArePlain MAX_INSTANCES (ends_lines 0 e)) (sym none) (plain_within 0 MAX_INSTANCES [] (omega arith) plain_nil)

ends_plain : (ops : ℕ) (a : Answer) (outcome : Outcome) → FitsOutcome ops a outcome → a.instances ≤ MAX_INSTANCES → ArePlain MAX_INSTANCES (ends_lines 0 a.ends)
ends_plain ops a (outcomes.Program size) fits few =
    let count : length a.ends ≤ MAX_INSTANCES = omega (arith, few, fits.one_for_each) in
    plain_within (length a.ends) MAX_INSTANCES _ count (runs_plain 0 a.ends (omega (arith, count)) fits.in_range)
ends_plain ops a outcomes.Nothing fits few = no_ends_plain a.ends fits.1
ends_plain ops a (outcomes.SpentExpansions size) fits few = no_ends_plain a.ends fits.1
ends_plain ops a (outcomes.SpentRun size t) fits few = no_ends_plain a.ends fits.1.1

-- ---- documents

pub document_fits : (texts : List (List ℕ)) (a : Answer) → AreNames texts → IsGrammatical (length texts) a → splits_of a.trees ≤ MAX_SPLITS → All (λ text. length text ≤ MAX_TEXT_LENGTH) texts
    → length (document texts a) ≤ MAX_DOCUMENT_LENGTH
document_fits texts a names good splits short =
    let ops = length texts in
    let told : List (List ℕ) = verdict_line a.outcome ∷ flat_map tree_lines a.trees in
    let front : List (List ℕ) = head_lines a ++ told in
    let body : List (List ℕ) = front ++ program_lines texts a.program in
    let lines : last_size a.lines a.outcome ≤ MAX_LINES = omega (arith, good.size.1, good.lines.1) in
    let head_size = plain_size 4 (head_lines a) (head_plain a ops good) in
    let told_size = plain_size (2 * MAX_LINES + most_children * splits_of a.trees + 1) told (plain_cons _ _ _ (verdict_plain a ops good) (trees_plain a ops names.few good)) in
    let program = program_size texts short a a.outcome good.outcome lines in
    let ends_size = plain_size MAX_INSTANCES (ends_lines 0 a.ends) (ends_plain ops a a.outcome good.outcome good.instances.1) in
    let last_size = plain_size 1 (codes "end of answer" ∷ []) (plain_cons 0 (codes "end of answer") [] (is_end refl) plain_nil) in
    omega (
      arith,
      size_append (head_lines a) told,
      size_append front (program_lines texts a.program),
      size_append body (ends_lines 0 a.ends),
      size_append (body ++ ends_lines 0 a.ends) (codes "end of answer" ∷ []),
      splits,
    )
