use Rattle.std.proofs.Common.{ap, length, arith}
use Rattle.pointer_machine.proofs.Counts.{length-operations}
use Rattle.pointer_machine.proofs.machine.PointerMachineMachine.ops.Goals as goal

pub overflow_cast-result : goal.overflow_cast-result
overflow_cast-result c =
    omega (arith, c.len.ensures, ap length c.self.invariant.1, length-operations c.self.inside.task c.self.inside.pointers, c.self.invariant.0.few_operations)

pub returns-clause-few : goal.returns-clause-few
returns-clause-few c =
    omega (arith, c.len.ensures, ap length c.self.invariant.1, length-operations c.self.inside.task c.self.inside.pointers, c.self.invariant.0.few_operations)
