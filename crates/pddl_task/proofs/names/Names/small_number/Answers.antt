use Rattle.std.proofs.Common.{arith}
use Rattle.pddl_task.proofs.Numbers.{number_within}
use Rattle.pddl_task.proofs.names.Names.small_number.Goals as goal

pub overflow_cast-result : goal.overflow_cast-result
overflow_cast-result c = omega (arith, number_within c.args.self.now c.args.name.now)
