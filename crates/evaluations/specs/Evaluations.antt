-- The evaluations of a partial program that waits, from its lines and from where its runs stand.
use Rattle.std.specs.Prelude.{ℕ, ◌+◌, ◌-◌, ◌==◌, max, ◌&&◌, Bool, true, false, List, [], ◌∷◌, length, map, fold, filter_map, sum_by, count_by, Option, Some, None, is_none, if◌then◌else◌}
use Rattle.std.specs.List.{list_any}
use Rattle.flag_rules.specs.declared.flags.Cond.{Cond}
use Rattle.flag_rules.specs.declared.flags.Cond.TheVariants as conds
use Rattle.program_model.specs.declared.instr.Instr.{Instr}
use Rattle.program_model.specs.declared.instr.Instr.TheVariants.{Op, Goto, End}
use Rattle.program_model.specs.declared.standing.Stand.{Stand}
use Rattle.program_model.specs.declared.standing.Stand.TheVariants as stands
use Rattle.program_model.specs.declared.outcome.RunOutcome.{RunOutcome}
use Rattle.program_model.specs.Program.{Program}
use Rattle.evaluations.specs.declared.evaluation.Evaluation.{Evaluation}
use Rattle.evaluations.specs.declared.evaluation.Evaluation.TheVariants.{Jumps, UndefinedLines, RepeatedInstructions, LinesBehind, MissingAtoms, Steps}
use Rattle.evaluations.specs.declared.standing.Standing.{Standing}

-- the line at which a run that stands so waits, if it does
abbrev pub waits_at : Stand → Option ℕ
waits_at stands.Ended = None
waits_at stands.Unmet = None
waits_at (stands.Repeats from to) = None
waits_at (stands.Waits line) = Some line
waits_at stands.AtLimit = None
waits_at stands.QuotaUsed = None

-- what is looked at of the outcome of a run
abbrev pub standing_of : RunOutcome → Standing
standing_of run = record { missing = run.missing; steps = run.steps; waits = waits_at run.standing }

-- the instructions on the defined lines, in order, that of the last line too
abbrev pub instrs_of : Program → List Instr
instrs_of program = filter_map (λ line. line) program

abbrev pub is_jump : Instr → Bool
is_jump (Op op) = false
is_jump (Goto target cond) = true
is_jump End = false

abbrev pub same_cond : Cond → Cond → Bool
same_cond conds.Zero conds.Zero = true
same_cond conds.Nonzero conds.Nonzero = true
same_cond conds.Carry conds.Carry = true
same_cond conds.Nocarry conds.Nocarry = true
same_cond _ _ = false

abbrev pub same_instr : Instr → Instr → Bool
same_instr (Op op) (Op other) = op == other
same_instr (Goto target cond) (Goto other second) = (target == other) && same_cond cond second
same_instr End End = true
same_instr _ _ = false

-- how many different instructions are listed: each counts where it stands for the last time
abbrev pub different : List Instr → ℕ
different [] = 0
different (instr ∷ instrs) = (if list_any (same_instr instr) instrs then 0 else 1) + different instrs

-- the greatest line at which one of the runs waits
abbrev pub greatest_waiting : List Standing → ℕ
greatest_waiting runs = fold max 0 (filter_map (λ (run : Standing). run.waits) runs)

-- the value of an evaluation, at a partial program and where its runs stand
abbrev pub value : Evaluation → Program → List Standing → ℕ
value Jumps program runs = count_by is_jump (instrs_of program)
value UndefinedLines program runs = count_by is_none program
value RepeatedInstructions program runs = length (instrs_of program) - different (instrs_of program)
value LinesBehind program runs = length program - 1 - greatest_waiting runs
value MissingAtoms program runs = sum_by (λ (run : Standing). run.missing) runs
value Steps program runs = sum_by (λ (run : Standing). run.steps) runs

-- the key of a partial program, where its runs stand so: the values of an order's evaluations
abbrev pub key : List Evaluation → Program → List Standing → List ℕ
key order program runs = map (λ evaluation. value evaluation program runs) order
