-- The lines of a program, and their texts.
use Rattle.std.proofs.Common.{◌≡◌, ℕ, ◌+◌, ◌<◌, List, length, get_or, ap, inl, inr, arith}
use Rattle.std.specs.Prelude.{Option, Some, None, option_and_then, slice_get}
use Rattle.std.proofs.lemmas.Bool.{cases_lt}
use Rattle.std.proofs.lemmas.Option.{slice_get-get_or, slice_get_within}
use Rattle.program_model.specs.declared.instr.Instr.{Instr}
use Rattle.program_model.specs.declared.instr.Instr.TheVariants.{Op, Goto, End}
use Rattle.program_model.specs.Program.{Program, line_at, IsInstr, IsProgram}
use Rattle.program_model.proofs.Alphabets.{contains_op, contains_last}
use Rattle.program_model.proofs.Programs.{line_within}
use Rattle.program_text.specs.Texts.{HasText}

-- ---- the instructions of a program have texts

pub has_text_of : (texts : List (List ℕ)) (lines place : ℕ) (instr : Instr) → place < lines → IsInstr (length texts) lines place instr → HasText texts instr
has_text_of texts lines place (Op op) within there = elim (cases_lt (place + 1) lines) [
  | inl inner ↦ (contains_op (length texts) lines place op inner).0 there
  | inr last ↦ absurd (cc ((contains_last (length texts) lines place (Op op) (omega (arith, last, within))).0 there))
]
has_text_of texts lines place (Goto target cond) within there = tt
has_text_of texts lines place End within there = tt

pub program_has_text : (texts : List (List ℕ)) (program : Program) (place : ℕ) (instr : Instr) → IsProgram (length texts) program → line_at program place ≡ Some instr → HasText texts instr
program_has_text texts program place instr is_program here =
    has_text_of texts (length program) place instr (line_within program place instr here) (is_program.is_partial.each place instr here)

-- ---- a line of a program

pub line_of_some : (o : Option (Option Instr)) (instr : Instr) → option_and_then (λ (i : Option Instr). i) o ≡ Some instr → o ≡ Some (Some instr)
line_of_some None instr e = absurd (cc)
line_of_some (Some None) instr e = absurd (cc)
line_of_some (Some (Some other)) instr e = ap (λ (i : Option Instr). Some i) e

-- an instruction that stands on a line is there in the list of lines
pub record StandsAt (program : Program) (place : ℕ) (instr : Instr) : Type 0 where
  pub within : place < length program
  pub is : Some instr ≡ get_or program place None

pub stands_at : (program : Program) (place : ℕ) (instr : Instr) → line_at program place ≡ Some instr → StandsAt program place instr
stands_at program place instr here =
    let there : slice_get program place ≡ Some (Some instr) = line_of_some (slice_get program place) instr here in
    let within : place < length program = slice_get_within program place (Some instr) there in
    record { within = within; is = cc (slice_get-get_or program place None within, there) }
