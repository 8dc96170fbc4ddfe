-- Instructions and programs over renamed pointers.
use Rattle.std.specs.Prelude.{ℕ, List, map, option_map}
use Rattle.program_model.specs.declared.instr.Instr.{Instr}
use Rattle.program_model.specs.declared.instr.Instr.TheVariants.{Op, Goto, End}
use Rattle.program_model.specs.Semantics.{Semantics}
use Rattle.program_model.specs.Program.{Program}

-- an instruction over renamed pointers; a jump and `end` name none
abbrev pub renamed_instr : {C : Type 0} → Semantics C → List ℕ → Instr → Instr
renamed_instr m by (Op op) = Op (m.rename by op)
renamed_instr m by (Goto target cond) = Goto target cond
renamed_instr m by End = End

-- a program over renamed pointers
abbrev pub renamed_program : {C : Type 0} → Semantics C → List ℕ → Program → Program
renamed_program m by program = map (option_map (renamed_instr m by)) program
