-- The operations that a run makes.
use Rattle.std.specs.Prelude.{ℕ, zero, suc, ◌+◌, Option, Some, None}
use Rattle.program_model.specs.declared.instr.Instr.{Instr}
use Rattle.program_model.specs.declared.instr.Instr.TheVariants.{Op, Goto, End}
use Rattle.program_model.specs.Semantics.{Semantics}
use Rattle.program_model.specs.Program.{Program, line_at}
use Rattle.program_model.specs.Run.{Config, at}

-- 1 for an operation, 0 for another instruction or none
abbrev pub op_count : Option Instr → ℕ
op_count None = 0
op_count (Some (Op op)) = 1
op_count (Some (Goto target cond)) = 0
op_count (Some End) = 0

-- 1 where a run stands on an operation
abbrev pub op_here : {C : Type 0} → Program → Option (Config C) → ℕ
op_here q None = 0
op_here q (Some c) = op_count (line_at q c.line)

-- how many of the first steps of a run are operations
abbrev pub operations_made : {C : Type 0} → Semantics C → Program → ℕ → ℕ → ℕ
operations_made m q t zero = 0
operations_made m q t (suc steps) = operations_made m q t steps + op_here q (at m q t steps)
