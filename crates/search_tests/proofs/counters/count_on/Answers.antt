use Rattle.std.proofs.Common.{ℕ, zero, suc, ◌<◌, refl, arith, lit<}
use Rattle.std.specs.Prelude.{IsSome}
use Rattle.flag_rules.specs.declared.flags.Cond.TheVariants.{Nonzero}
use Rattle.program_model.specs.declared.instr.Instr.TheVariants.{Op, Goto}
use Rattle.program_model.specs.Program.{Program, line_at, empty, with_line, IsPartial}
use Rattle.program_model.proofs.Alphabets.{IsTarget, contains_op, contains_jump}
use Rattle.program_model.proofs.Programs.{partial_empty, partial_with_line}
use Rattle.search_tests.proofs.counters.count_on.Goals as goal

abbrev first_line : Program
first_line = with_line (empty 3) 0 (Op 0)

abbrev counting : Program
counting = with_line first_line 1 (Goto 0 Nonzero)

is_partial : IsPartial 1 counting
is_partial =
    let target : IsTarget 3 1 0 = record { within = lit< tt; not_here = λ e. omega arith; not_next = λ e. omega arith } in
    let first : IsPartial 1 first_line = partial_with_line 1 (empty 3) 0 (Op 0) (partial_empty 1 3 (lit< tt)) (record { within = lit< tt; undefined = refl }) ((contains_op 1 3 0 0 (lit< tt)).1 (lit< tt)) in
    partial_with_line 1 first_line 1 (Goto 0 Nonzero) first (record { within = lit< tt; undefined = refl }) ((contains_jump 1 3 1 0 Nonzero (lit< tt)).1 target)

is_whole : (line : ℕ) → line < 3 → IsSome (line_at counting line)
is_whole zero h = refl
is_whole (suc zero) h = refl
is_whole (suc (suc zero)) h = refl
is_whole (suc (suc (suc line))) h = absurd (omega arith)

pub returns : goal.returns
returns c = rw (c.define-2.ensures, c.define.ensures, c.empty-program.ensures) (record { is_partial = is_partial; whole = is_whole })
