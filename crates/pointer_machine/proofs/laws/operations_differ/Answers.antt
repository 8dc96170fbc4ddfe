use Rattle.pointer_machine.proofs.Once.{operations_once}
use Rattle.pointer_machine.proofs.laws.operations_differ.Goals as goal

pub returns : goal.returns
returns c = operations_once
