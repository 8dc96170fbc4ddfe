-- The document of an accepted answer is what is to come at its start.
use Rattle.std.proofs.Common.{◌≡◌, ℕ, ◌+◌, ◌-◌, ◌<◌, ◌≤◌, List, [], ◌∷◌, ◌++◌, map, length, Some, refl, sym, ◌∙◌, ap, subst, arith}
use Rattle.std.specs.Prelude.{Option, None, IfSome, All, flat_map, codes}
use Rattle.std.specs.List.{range_with_len}
use Rattle.std.proofs.lemmas.List.{append_assoc}
use Rattle.program_model.specs.declared.alphabet.TheConstants.{MAX_LINES}
use Rattle.program_model.specs.declared.machine.TheConstants.{MAX_INSTANCES, MAX_POINTERS}
use Rattle.program_model.specs.Semantics.{Semantics}
use Rattle.program_model.specs.Program.{Program}
use Rattle.program_text.specs.Texts.{program_line}
use Rattle.flag_rules.specs.Line.{then_number}
use Rattle.refutation_tree.specs.declared.ranges.TheConstants.{MAX_STEPS}
use Rattle.refutation_tree.specs.declared.evidence.Tree.{Tree}
use Rattle.refutation_tree.specs.declared.evidence.Outcome.{Outcome}
use Rattle.refutation_tree.specs.declared.evidence.Outcome.TheVariants as outcomes
use Rattle.refutation_tree.specs.declared.evidence.Answer.{Answer}
use Rattle.refutation_tree.specs.Grammar.{FitsOutcome, HasProgram, IsFromOneTo, IsGrammatical, IsTree, last_size}
use Rattle.refutation_tree.specs.Accepted.{AreEndsFrom, CoversRefuted, IsAccepted}
use Rattle.pointer_symmetry.specs.Twins.{twins}
use Rattle.answer_writer.specs.Document.{head_lines, document_lines, program_lines, ends_lines, tree_lines, verdict_line}
use Rattle.answer_lines.specs.Lines.{NamesInstance}
use Rattle.document_check.specs.Documents.{IsAcceptedDocument}
use Rattle.document_check.specs.Remaining.{LastLine, EndsToCome, InstrsToCome, ProgramToCome, FoundToCome, TreesToCome, VerdictToCome, HeadingToCome, heading_lines}

module _ {C : Type 0} (m : Semantics C) (texts : List (List ℕ)) where
  -- the steps are as many as instances are left
  ends_count : (p : Program) (t : ℕ) (js : List ℕ) → AreEndsFrom m p t js → t + length js ≡ m.instances
  ends_count p t [] are = omega (arith, are)
  ends_count p t (j ∷ js) are = let later = ends_count p (t + 1) js are.2 in omega (arith, later)

  -- the outcome names an instance of the machine
  named : (a : Answer) (outcome : Outcome) → a.instances ≡ m.instances → FitsOutcome m.ops a outcome → NamesInstance m.instances outcome
  named a (outcomes.Program size) same fits = tt
  named a outcomes.Nothing same fits = tt
  named a (outcomes.SpentExpansions size) same fits = tt
  named a (outcomes.SpentRun size t) same fits = omega (arith, same, fits.0)

  -- what follows the trees of an answer
  abbrev tail_of : Answer → List (List ℕ)
  tail_of a = program_lines texts a.program ++ (ends_lines 0 a.ends ++ codes "end of answer" ∷ [])

  right_nested : (a b c d e : List (List ℕ)) → (((a ++ b) ++ c) ++ d) ++ e ≡ a ++ (b ++ (c ++ (d ++ e)))
  right_nested a b c d e = append_assoc ((a ++ b) ++ c) d e ∙ append_assoc (a ++ b) c (d ++ e) ∙ append_assoc a b (c ++ (d ++ e))

  no_tail : (a : Answer) → a.program ≡ None → a.ends ≡ [] → LastLine (tail_of a)
  no_tail a none no_ends =
      ap (λ (o : Option Program). program_lines texts o ++ (ends_lines 0 a.ends ++ codes "end of answer" ∷ [])) none
      ∙ ap (λ (js : List ℕ). ends_lines 0 js ++ codes "end of answer" ∷ []) no_ends

  found_of : (a : Answer) (outcome : Outcome) → FitsOutcome m.ops a outcome → IfSome a.program (λ p. AreEndsFrom m p 0 a.ends) → FoundToCome m texts outcome (tail_of a)
  found_of a (outcomes.Program size) fits ends = record {
    after = map (program_line texts) fits.program ++ (ends_lines 0 a.ends ++ codes "end of answer" ∷ []);
    instrs = record {
      rest = fits.program;
      is_program = fits.is_program;
      size_is = fits.size_is;
      after = ends_lines 0 a.ends ++ codes "end of answer" ∷ [];
      ends = record {
        ends = a.ends;
        are_ends = subst (λ (o : Option Program). IfSome o (λ p. AreEndsFrom m p 0 a.ends)) fits.given ends;
        in_range = fits.in_range;
        written = refl;
      };
      written = refl;
    };
    written = ap (λ (o : Option Program). program_lines texts o ++ (ends_lines 0 a.ends ++ codes "end of answer" ∷ [])) fits.given;
  }
  found_of a outcomes.Nothing fits ends = no_tail a fits.0 fits.1
  found_of a (outcomes.SpentExpansions size) fits ends = no_tail a fits.0 fits.1
  found_of a (outcomes.SpentRun size t) fits ends = no_tail a fits.1.0 fits.1.1

  heads : (a : Answer) (lines : ℕ) → IsAccepted m (twins m) lines a → head_lines a ≡ heading_lines m lines
  heads a lines is =
      ap (λ (n : ℕ). codes "bfgp answer 1" ∷ (codes "pointers" ++ then_number n) ∷ (codes "lines" ++ then_number a.lines) ∷ (codes "instances" ++ then_number a.instances) ∷ []) is.pointers
      ∙ ap (λ (n : ℕ). codes "bfgp answer 1" ∷ (codes "pointers" ++ then_number m.pointers) ∷ (codes "lines" ++ then_number n) ∷ (codes "instances" ++ then_number a.instances) ∷ []) is.asked
      ∙ ap (λ (n : ℕ). codes "bfgp answer 1" ∷ (codes "pointers" ++ then_number m.pointers) ∷ (codes "lines" ++ then_number lines) ∷ (codes "instances" ++ then_number n) ∷ []) is.instances

  -- an accepted answer is what is to come
  pub to_come : (lines : ℕ) (a : Answer) → IsAccepted m (twins m) lines a → HeadingToCome m texts lines 0 (document_lines texts a)
  to_come lines a is =
      let fits = is.grammatical.outcome in
      let size : IsFromOneTo lines (last_size lines a.outcome) = subst (λ (n : ℕ). IsFromOneTo n (last_size n a.outcome)) is.asked is.grammatical.size in
      record {
        in_range = subst (IsFromOneTo MAX_LINES) is.asked is.grammatical.lines;
        after = verdict_line a.outcome ∷ flat_map tree_lines a.trees ++ tail_of a;
        verdict = record {
          outcome = a.outcome;
          size = size;
          instance = named a a.outcome is.instances fits;
          after = flat_map tree_lines a.trees ++ tail_of a;
          trees = record {
            trees = a.trees;
            sizes = is.grammatical.sizes ∙ ap (λ (n : ℕ). range_with_len 1 (last_size n a.outcome)) is.asked ∙ ap (range_with_len 1) (omega arith);
            are_trees = subst (λ (n : ℕ). All (IsTree m.ops n) a.trees) is.instances is.grammatical.trees;
            covered = is.covered;
            after = tail_of a;
            found = found_of a a.outcome fits is.ends;
            written = refl;
          };
          written = refl;
        };
        written =
            right_nested (head_lines a) (verdict_line a.outcome ∷ flat_map tree_lines a.trees) (program_lines texts a.program) (ends_lines 0 a.ends) (codes "end of answer" ∷ [])
            ∙ ap (λ (l : List (List ℕ)). l ++ (verdict_line a.outcome ∷ flat_map tree_lines a.trees ++ tail_of a)) (heads a lines is);
      }

  -- a program, if there is one, and the ends of its runs, that what is to come after the trees tells
  record Tells (outcome : Outcome) (more : List (List ℕ)) : Type 0 where
    program : Option Program
    ends : List ℕ
    fits : (a : Answer) → a.program ≡ program → a.ends ≡ ends → a.instances ≡ m.instances → FitsOutcome m.ops a outcome
    are_ends : IfSome program (λ p. AreEndsFrom m p 0 ends)
    written : more ≡ program_lines texts program ++ (ends_lines 0 ends ++ codes "end of answer" ∷ [])

  tells : (outcome : Outcome) (more : List (List ℕ)) → NamesInstance m.instances outcome → FoundToCome m texts outcome more → Tells outcome more
  tells (outcomes.Program size) more names found =
      let instrs = found.instrs in
      let known = instrs.ends in
      record {
        program = Some instrs.rest;
        ends = known.ends;
        fits = λ a given ends same. record {
          program = instrs.rest;
          given = given;
          is_program = instrs.is_program;
          size_is = instrs.size_is;
          one_for_each = ap length ends ∙ (let count = ends_count instrs.rest 0 known.ends known.are_ends in omega (arith, count)) ∙ sym same;
          in_range = subst (All (λ j. j ≤ MAX_STEPS)) (sym ends) known.in_range;
        };
        are_ends = known.are_ends;
        written = found.written ∙ ap (λ (l : List (List ℕ)). codes "program" ∷ l) (instrs.written ∙ ap (λ (l : List (List ℕ)). map (program_line texts) instrs.rest ++ l) known.written);
      }
  tells outcomes.Nothing more names found = record { program = None; ends = []; fits = λ a given ends same. (given, ends); are_ends = tt; written = found }
  tells (outcomes.SpentExpansions size) more names found = record { program = None; ends = []; fits = λ a given ends same. (given, ends); are_ends = tt; written = found }
  tells (outcomes.SpentRun size t) more names found = record { program = None; ends = []; fits = λ a given ends same. (omega (arith, same, names), (given, ends)); are_ends = tt; written = found }

  -- an accepted answer whose lines these are
  pub record HasAnswer (lines : ℕ) (more : List (List ℕ)) : Type 0 where
    pub answer : Answer
    pub is_accepted : IsAccepted m (twins m) lines answer
    pub written : more ≡ document_lines texts answer

  -- what is to come at the start is an accepted answer
  pub come : (lines : ℕ) (more : List (List ℕ)) → IsFromOneTo MAX_POINTERS m.pointers → IsFromOneTo MAX_INSTANCES m.instances → HeadingToCome m texts lines 0 more → HasAnswer lines more
  come lines more pointers instances h =
      let verdict = h.verdict in
      let known = verdict.trees in
      let told = tells verdict.outcome known.after verdict.instance known.found in
      let answer : Answer = record { pointers = m.pointers; lines = lines; instances = m.instances; outcome = verdict.outcome; trees = known.trees; program = told.program; ends = told.ends } in
      record {
        answer = answer;
        is_accepted = record {
          grammatical = record {
            pointers = pointers;
            lines = h.in_range;
            instances = instances;
            size = verdict.size;
            sizes = known.sizes ∙ ap (range_with_len 1) (omega arith);
            trees = known.are_trees;
            outcome = told.fits answer refl refl refl;
          };
          pointers = refl;
          asked = refl;
          instances = refl;
          covered = known.covered;
          ends = told.are_ends;
        };
        written =
            h.written
            ∙ ap (λ (l : List (List ℕ)). heading_lines m lines ++ l) (verdict.written ∙ ap (λ (l : List (List ℕ)). verdict_line verdict.outcome ∷ l) (known.written ∙ ap (λ (l : List (List ℕ)). flat_map tree_lines known.trees ++ l) told.written))
            ∙ sym (right_nested (head_lines answer) (verdict_line verdict.outcome ∷ flat_map tree_lines known.trees) (program_lines texts told.program) (ends_lines 0 told.ends) (codes "end of answer" ∷ []));
      }
