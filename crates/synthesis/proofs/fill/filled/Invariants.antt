use Rattle.synthesis.specs.Inner.Filling.{FillsBelow}
use Rattle.synthesis.proofs.fill.filled.Given as goal

abbrev pub invariant-loop-line : goal.invariant-loop-line
invariant-loop-line l = FillsBelow l.ops l.partial l.line l.program
