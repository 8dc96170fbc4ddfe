-- What a program text says: a program, or why it is none.
use Rattle.std.specs.Prelude.{◌≡◌, ◌<◌, ◌≤◌, ℕ, ◌-◌, List, length, map, Some, slice_get, codes, Result, Ok, Err}
use Rattle.program_model.specs.declared.alphabet.TheConstants.{MAX_LINES}
use Rattle.program_model.specs.declared.instr.Instr.{Instr}
use Rattle.program_model.specs.Program.{Program, IsInstr, IsProgram}
use Rattle.program_text.specs.declared.lines.InstructionLine.{InstructionLine}
use Rattle.program_text.specs.declared.refusal.ProgramRefusal.{ProgramRefusal}
use Rattle.program_text.specs.declared.refusal.ProgramRefusal.TheVariants.{TooLong, NoEnd, Line, OutOfMemory}
use Rattle.program_text.specs.Texts.{instr_text, program_line}
use Rattle.program_text.specs.Lines.{instruction_lines}

abbrev pub texts_of : List InstructionLine → List (List ℕ)
texts_of lines = map (λ (line : InstructionLine). line.text) lines

-- a text may stand at a place of a program of so many lines: it is that of an instruction of the place's alphabet
pub record MayStand (texts : List (List ℕ)) (lines place : ℕ) (text : List ℕ) : Type 0 where
  pub instr : Instr
  pub allowed : IsInstr (length texts) lines place instr
  pub written : instr_text texts instr ≡ text

-- the last of the lines is `end`
abbrev pub HasEnd : List InstructionLine → Type 0
HasEnd lines = slice_get (texts_of lines) (length lines - 1) ≡ Some (codes "end")

-- the first of the lines that may not stand at its place has this number
pub record IsMisplaced (texts : List (List ℕ)) (lines : List InstructionLine) (number : ℕ) : Type 0 where
  pub place : ℕ
  pub line : InstructionLine
  pub here : slice_get lines place ≡ Some line
  pub number_is : line.number ≡ number
  pub astray : MayStand texts (length lines) place line.text → ⊥
  pub first : (k : ℕ) (before : InstructionLine) → k < place → slice_get lines k ≡ Some before → MayStand texts (length lines) k before.text

-- the lines are those of a program, in order
pub record AreLinesOf (texts : List (List ℕ)) (program : Program) (lines : List InstructionLine) : Type 0 where
  pub few : length lines ≤ MAX_LINES
  pub is_program : IsProgram (length texts) program
  pub same : map (program_line texts) program ≡ texts_of lines

-- what instruction lines say. That there are too many comes first, and then that the last is not `end`
abbrev pub Says : List (List ℕ) → List InstructionLine → Result Program ProgramRefusal → Type 0
Says texts lines (Ok program) = AreLinesOf texts program lines
Says texts lines (Err (TooLong count)) = (MAX_LINES < length lines) × (count ≡ length lines)
Says texts lines (Err NoEnd) = (length lines ≤ MAX_LINES) × (HasEnd lines → ⊥)
Says texts lines (Err (Line number)) = (length lines ≤ MAX_LINES) × HasEnd lines × IsMisplaced texts lines number
Says texts lines (Err OutOfMemory) = Unit {0}

-- what a program text says, where these are the texts of the operations
abbrev pub Reads : List (List ℕ) → List ℕ → Result Program ProgramRefusal → Type 0
Reads texts bytes result = Says texts (instruction_lines bytes) result
