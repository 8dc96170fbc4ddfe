use Rattle.std.proofs.Common.{sym, ◌∙◌, refl, arith, below_more}
use Rattle.std.proofs.lemmas.Bool.{false≢true}
use Rattle.refutation_check.proofs.Lines.{instr_of, program_of}
use Rattle.refutation_check.proofs.grammar.is_program.Goals as goal

pub returns-then-not-has_instr : goal.returns-then-not-has_instr
returns-then-not-has_instr c = (
  λ h. absurd (false≢true h),
  λ program. absurd (false≢true (sym c.if-not-has_instr.true ∙ c.has_instr.ensures.1 (instr_of c.args.ops c.args.program.now c.loop-line.line program (omega (arith, c.loop-line-test.true, c.lines-line-end.ensures.count))))),
)

pub loop-line-preserved : goal.loop-line-preserved
loop-line-preserved c = below_more _ _ c.loop-line.invariant (c.has_instr.ensures.0 c.if-not-has_instr.false)

pub returns : goal.returns
returns c = (
  λ h. program_of c.args.ops c.args.program.now c.lines-line-end.ensures.some (λ line less. c.loop-line.invariant line (omega (arith, c.loop-line-test.false, c.lines-line-end.ensures.count))),
  λ program. refl,
)
