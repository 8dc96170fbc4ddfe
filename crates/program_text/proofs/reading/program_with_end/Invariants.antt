use Rattle.program_text.proofs.SoFar.{IsReadTo}
use Rattle.program_text.proofs.reading.program_with_end.Given as goal

abbrev pub invariant-loop-place : goal.invariant-loop-place
invariant-loop-place l = IsReadTo l.names l.lines l.place l.program
