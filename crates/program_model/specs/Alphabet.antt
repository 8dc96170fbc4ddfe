-- The alphabet of a line: the instructions that may stand there, in the order of their ranks.
use Rattle.std.specs.Prelude.{ℕ, ◌+◌, ◌-◌, List, [], ◌∷◌, ◌++◌, map, flat_map, ◌==◌, if◌then◌else◌}
use Rattle.std.specs.List.{range_with_len}
use Rattle.flag_rules.specs.declared.flags.Cond.{Cond}
use Rattle.flag_rules.specs.declared.flags.Cond.TheVariants.{Zero, Nonzero, Carry, Nocarry}
use Rattle.program_model.specs.declared.instr.Instr.{Instr}
use Rattle.program_model.specs.declared.instr.Instr.TheVariants.{Op, Goto, End}

-- the conditions of a jump, in order
abbrev pub conditions : List Cond
conditions = Zero ∷ Nonzero ∷ Carry ∷ Nocarry ∷ []

-- the lines that a jump on a line may go to, rising: all lines but that one and the one after it
abbrev pub targets : ℕ → ℕ → List ℕ
targets lines line = range_with_len 0 line ++ range_with_len (line + 2) (lines - (line + 2))

-- the jumps to a target, one for each condition
abbrev pub jumps_to : ℕ → List Instr
jumps_to target = map (λ cond. Goto target cond) conditions

-- the alphabet of a line that is not the last: all operations by number, then the jumps by target and condition
abbrev pub inner_alphabet : ℕ → ℕ → ℕ → List Instr
inner_alphabet ops lines line = map Op (range_with_len 0 ops) ++ flat_map jumps_to (targets lines line)

-- the alphabet of a line below so many: `end` alone on the last line
abbrev pub alphabet : ℕ → ℕ → ℕ → List Instr
alphabet ops lines line = if line + 1 == lines then End ∷ [] else inner_alphabet ops lines line
