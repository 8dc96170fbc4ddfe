use Rattle.std.proofs.Common.{arith}
use Rattle.pddl_task.proofs.Bounds.{objects_few}
use Rattle.pddl_task.proofs.making.limit_of_problem.Goals as goal

pub overflow_add-count : goal.overflow_add-count
overflow_add-count c = omega (arith, objects_few c.args.domain.now c.args.problem.now c.requires.domain c.requires.problem)
