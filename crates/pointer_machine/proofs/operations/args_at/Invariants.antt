use Rattle.pointer_machine.proofs.Digits.{AreDigits}
use Rattle.pointer_machine.proofs.operations.args_at.Given as goal

abbrev pub invariant-loop-index : goal.invariant-loop-index
invariant-loop-index l = AreDigits l.pointers l.params l.place l.digits l.rest l.index
