use Rattle.std.proofs.Common.{ℕ, ◌<◌}
use Rattle.refutation_check.specs.Inner.Judging.{HasInstr}
use Rattle.refutation_check.proofs.grammar.is_program.Given as goal

abbrev pub invariant-loop-line : goal.invariant-loop-line
invariant-loop-line l = (line : ℕ) → line < l.line → HasInstr l.ops l.program line
