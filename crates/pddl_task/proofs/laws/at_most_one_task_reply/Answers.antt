use Rattle.pddl_task.proofs.OneAnswer.{one-task}
use Rattle.pddl_task.proofs.laws.at_most_one_task_reply.Goals as goal

pub returns : goal.returns
returns c = one-task
