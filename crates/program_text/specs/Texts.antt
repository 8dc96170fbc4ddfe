-- How instructions and programs are written, where these are the texts of the operations.
use Rattle.std.specs.Prelude.{◌<◌, ℕ, List, [], ◌++◌, length, map, slice_index_or, Option, Some, None, codes, decimal}
use Rattle.flag_rules.specs.Line.{lines_of}
use Rattle.flag_rules.specs.declared.flags.Cond.{Cond}
use Rattle.flag_rules.specs.declared.flags.Cond.TheVariants.{Zero, Nonzero, Carry, Nocarry}
use Rattle.program_model.specs.declared.instr.Instr.{Instr}
use Rattle.program_model.specs.declared.instr.Instr.TheVariants.{Op, Goto, End}
use Rattle.program_model.specs.Program.{Program}

abbrev pub cond_text : Cond → List ℕ
cond_text Zero = codes "zero"
cond_text Nonzero = codes "nonzero"
cond_text Carry = codes "carry"
cond_text Nocarry = codes "nocarry"

abbrev pub jump_text : ℕ → Cond → List ℕ
jump_text target cond = codes "goto " ++ decimal target ++ codes " if " ++ cond_text cond

abbrev pub instr_text : List (List ℕ) → Instr → List ℕ
instr_text texts (Op op) = slice_index_or texts op []
instr_text texts (Goto target cond) = jump_text target cond
instr_text texts End = codes "end"

-- an instruction that can be written: an operation needs a text
abbrev pub HasText : List (List ℕ) → Instr → Type 0
HasText texts (Op op) = op < length texts
HasText texts (Goto target cond) = Unit {0}
HasText texts End = Unit {0}

-- a line of a program; all lines of a program are defined
abbrev pub program_line : List (List ℕ) → Option Instr → List ℕ
program_line texts None = []
program_line texts (Some instr) = instr_text texts instr

-- a program: each instruction in a line of its own, which ends with a line feed
abbrev pub program_text : List (List ℕ) → Program → List ℕ
program_text texts program = lines_of (map (program_line texts) program)
