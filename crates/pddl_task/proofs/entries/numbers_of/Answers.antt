use Rattle.std.proofs.Common.{arith}
use Rattle.pddl_task.proofs.Numbers.{number_within}
use Rattle.pddl_task.proofs.entries.numbers_of.Goals as goal

pub overflow_cast-number : goal.overflow_cast-number
overflow_cast-number c = omega (arith, number_within c.args.objects.now c.as_slice.result.now)
