-- Programs and partial programs over a number of operations.
use Rattle.std.specs.Prelude.{◌≡◌, ℕ, ◌-◌, ◌<◌, List, [], ◌∷◌, ◌++◌, length, replicate, Option, Some, None, IsSome, option_and_then, slice_get, slice_set, Contains}
use Rattle.program_model.specs.declared.instr.Instr.{Instr}
use Rattle.program_model.specs.declared.instr.Instr.TheVariants.{End}
use Rattle.program_model.specs.Alphabet.{alphabet}

-- the lines of a program, each with its instruction, or with nothing where the line is undefined
abbrev pub Program : Type 0
Program = List (Option Instr)

-- the instruction on a line, if the line is there and defined
abbrev pub line_at : Program → ℕ → Option Instr
line_at program line = option_and_then (λ instr. instr) (slice_get program line)

-- the program of so many lines, at least one, that has `end` on the last line and nothing on the others
abbrev pub empty : ℕ → Program
empty lines = replicate (lines - 1) None ++ Some End ∷ []

-- the program with an instruction on a line
abbrev pub with_line : Program → ℕ → Instr → Program
with_line program line instr = slice_set program line (Some instr)

-- the program with nothing on a line
abbrev pub without_line : Program → ℕ → Program
without_line program line = slice_set program line None

-- a line of the program that is undefined
pub record IsOpen (program : Program) (line : ℕ) : Type 0 where
  pub within : line < length program
  pub undefined : line_at program line ≡ None

-- an instruction of a line's alphabet
abbrev pub IsInstr : ℕ → ℕ → ℕ → Instr → Type 0
IsInstr ops lines line instr = Contains (alphabet ops lines line) instr

-- a partial program: `end` on the last line, and on each defined line an instruction of its alphabet
pub record IsPartial (ops : ℕ) (program : Program) : Type 0 where
  pub some : 0 < length program
  pub last : line_at program (length program - 1) ≡ Some End
  pub each : (line : ℕ) (instr : Instr) → line_at program line ≡ Some instr → IsInstr ops (length program) line instr

-- a program: a partial program whose lines are all defined
pub record IsProgram (ops : ℕ) (program : Program) : Type 0 where
  pub is_partial : IsPartial ops program
  pub whole : (line : ℕ) → line < length program → IsSome (line_at program line)

-- a program extends another: as many lines, and the same instruction on each line that the other defines
pub record Extends (program part : Program) : Type 0 where
  pub size : length program ≡ length part
  pub keeps : (line : ℕ) (instr : Instr) → line_at part line ≡ Some instr → line_at program line ≡ Some instr

-- a program completes a partial program
pub record Completes (ops : ℕ) (program part : Program) : Type 0 where
  pub is_program : IsProgram ops program
  pub extends : Extends program part
