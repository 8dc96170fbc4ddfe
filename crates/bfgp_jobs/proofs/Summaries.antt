-- A summary ends with the program of its answer.
use Rattle.std.proofs.Common.{◌≡◌, ℕ, ◌≤◌, List, [], ◌∷◌, ◌++◌, length, map, Option, Some, None, codes, sym, ◌∙◌, ap, subst, arith}
use Rattle.flag_rules.specs.Line.{lines_of}
use Rattle.flag_rules.proofs.Lines.{lines_of-append}
use Rattle.program_model.specs.declared.alphabet.TheConstants.{MAX_LINES}
use Rattle.program_model.specs.Program.{Program, IsProgram}
use Rattle.program_text.specs.Names.{AreNames}
use Rattle.program_text.specs.Texts.{program_line, program_text}
use Rattle.program_text.proofs.Spelled.{program_as_written}
use Rattle.refutation_tree.specs.declared.evidence.Answer.{Answer}
use Rattle.refutation_tree.specs.declared.evidence.Outcome.{Outcome}
use Rattle.refutation_tree.specs.declared.evidence.Outcome.TheVariants as outcomes
use Rattle.refutation_tree.specs.Grammar.{IsGrammatical, IsFromOneTo, FitsOutcome, last_size}
use Rattle.answer_writer.specs.Document.{program_lines}
use Rattle.family_gen.specs.declared.kinds.Family.{Family}
use Rattle.summary_writer.specs.Summary.{family_lines, result_lines, summary}
use Rattle.bfgp_jobs.specs.Headline.{EndsWithProgram}

-- the program of an answer is one of at most as many lines as a program has
record GivesProgram (ops : ℕ) (program : Program) : Type 0 where
  is_program : IsProgram ops program
  few : length program ≤ MAX_LINES

given_program : (ops : ℕ) (found : Answer) (program : Program) → IsGrammatical ops found → found.program ≡ Some program → GivesProgram ops program
given_program ops found program is given = by_outcome found.outcome is.outcome is.size
  where
    none : found.program ≡ None → GivesProgram ops program
    none without = absurd (let both = sym given ∙ without in cc)

    by_outcome : (outcome : Outcome) → FitsOutcome ops found outcome → IsFromOneTo found.lines (last_size found.lines outcome) → GivesProgram ops program
    by_outcome (outcomes.Program size) fits within =
        let both = sym fits.given ∙ given in
        let same : fits.program ≡ program = cc in
        let size_is = fits.size_is in
        let few : length fits.program ≤ MAX_LINES = omega (arith, size_is, within.1, is.lines.1) in
        record {
          is_program = subst (IsProgram ops) same fits.is_program;
          few = subst (λ (p : Program). length p ≤ MAX_LINES) same few;
        }
    by_outcome outcomes.Nothing fits within = none fits.0
    by_outcome (outcomes.SpentExpansions size) fits within = none fits.0
    by_outcome (outcomes.SpentRun size t) fits within = none fits.1.0

module _ (texts : List (List ℕ)) (family : Family) (number : ℕ) (found : Answer) (program : Program) (given : found.program ≡ Some program) where
  -- the lines before those of the program
  abbrev lines_before : List (List ℕ)
  lines_before = family_lines family number ++ result_lines found ++ codes "program" ∷ []

  ends : summary texts family number found ≡ lines_of lines_before ++ program_text texts program
  ends =
      ap (λ (p : Option Program). lines_of (family_lines family number ++ result_lines found ++ program_lines texts p)) given
      ∙ lines_of-append lines_before (map (program_line texts) program)

  pub ends_with_program : AreNames texts → IsGrammatical (length texts) found → EndsWithProgram texts (summary texts family number found) program
  ends_with_program named is =
      let gives = given_program (length texts) found program is given in
      record {
        front = lines_of lines_before;
        ends = ends;
        reads = program_as_written texts program named gives.is_program gives.few;
      }
