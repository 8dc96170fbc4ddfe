use Rattle.pddl_task.proofs.OneAnswer.{one-instance}
use Rattle.pddl_task.proofs.laws.at_most_one_instance_reply.Goals as goal

pub returns : goal.returns
returns c = one-instance
