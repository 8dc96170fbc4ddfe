use Rattle.pddl_tests.proofs.tasks.instance_of.Goals as goal

pub instance-requires : goal.instance-requires
instance-requires c = record { task = c.in_ok-task.ensures; domain = c.requires.over; text = c.requires.text }
