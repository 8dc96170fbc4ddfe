-- What stands for a program with a twin.
use Rattle.std.specs.Prelude.{◌≡◌, ◌↔◌, ℕ, false, List}
use Rattle.program_model.specs.declared.instr.Instr.{Instr}
use Rattle.program_model.specs.Semantics.{Semantics}
use Rattle.program_model.specs.Renaming.{IsRenamingOf}
use Rattle.program_model.specs.Program.{Program, with_line, Completes}
use Rattle.program_model.specs.Run.{SolvesAll}
use Rattle.pointer_symmetry.specs.Renamed.{renamed_program}
use Rattle.pointer_symmetry.specs.Used.{is_used}
use Rattle.pointer_symmetry.specs.Twins.{canonical_instr, twins}

-- a program that completes a partial one with an instruction on a line comes, over renamed pointers, to one that completes the same
-- partial program with the canonical form of the instruction, which is no twin; one solves every instance exactly where the other does
pub record HasRenamed {C : Type 0} (m : Semantics C) (q : Program) (line : ℕ) (instr : Instr) (program : Program) : Type 0 where
  pub by : List ℕ
  pub is_renaming : IsRenamingOf m.pointers by
  pub completes : Completes m.ops (renamed_program m by program) (with_line q line (canonical_instr m (is_used m q) instr))
  pub kept : twins m q (canonical_instr m (is_used m q) instr) ≡ false
  pub alike : SolvesAll m program ↔ SolvesAll m (renamed_program m by program)
