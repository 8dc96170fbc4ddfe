use Rattle.std.proofs.Common.{arith}
use Rattle.pddl_task.proofs.Numbers.{number_within}
use Rattle.pddl_task.proofs.entries.term_at.Goals as goal

pub overflow_cast-result : goal.overflow_cast-result
overflow_cast-result c = omega (arith, number_within c.args.params.now c.as_slice-text.result.now)

pub overflow_cast-result-else-holds : goal.overflow_cast-result-else-holds
overflow_cast-result-else-holds c = omega (arith, number_within c.args.constants.now c.as_slice-text.result.now)
