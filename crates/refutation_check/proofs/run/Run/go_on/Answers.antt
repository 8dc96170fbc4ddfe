use Rattle.std.proofs.Common.{sym, ◌∙◌, arith}
use Rattle.refutation_check.proofs.Stepping.{op_is_there, stands_on}
use Rattle.refutation_check.proofs.run.Run.go_on.Goals as goal

pub step-requires-clause-op : goal.step-requires-clause-op
step-requires-clause-op g c = op_is_there _ _ _ _ c.requires.partial (omega (arith, c.if-line-lines.false)) (sym c.at.ensures.value ∙ c.in-Some.is)

pub returns-clause-stands : goal.returns-clause-stands
returns-clause-stands g c =
    stands_on _ _ _ _ c.requires.partial _ c.requires.stands c.in-Some.instr (omega (arith, c.if-line-lines.false)) (sym c.at.ensures.value ∙ c.in-Some.is) c.step.new.self c.step.ensures.stepped c.step.ensures.value
