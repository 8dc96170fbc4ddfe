use Rattle.pointer_machine.proofs.Counts.{length-operations}
use Rattle.pointer_machine.proofs.laws.operations_are_counted.Goals as goal

pub returns : goal.returns
returns c = length-operations
