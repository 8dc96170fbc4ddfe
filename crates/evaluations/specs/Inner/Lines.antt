-- An instruction that stands on a later line too.
use Rattle.std.specs.Prelude.{ℕ, ◌+◌, Bool, false, List, drop, Option, Some, None}
use Rattle.std.specs.List.{list_any}
use Rattle.program_model.specs.declared.instr.Instr.{Instr}
use Rattle.program_model.specs.Program.{Program, line_at}
use Rattle.evaluations.specs.Evaluations.{instrs_of, same_instr}

-- whether an instruction, if there is one, is one of these
abbrev pub is_among : List Instr → Option Instr → Bool
is_among instrs None = false
is_among instrs (Some instr) = list_any (same_instr instr) instrs

-- whether a line has an instruction that stands on a later line too
abbrev pub stands_again : Program → ℕ → Bool
stands_again program line = is_among (instrs_of (drop (line + 1) program)) (line_at program line)
