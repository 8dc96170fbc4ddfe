use Rattle.std.proofs.Common.{sym}
use Rattle.pddl_task.specs.Faults.{IsDomainFault}
use Rattle.pddl_task.proofs.Bounds.{types_few}
use Rattle.pddl_task.proofs.Refusals.{none_told}
use Rattle.pddl_task.proofs.TaskFits.{task-fits}
use Rattle.pddl_task.proofs.making.task.Goals as goal

pub type_entries-requires-clause-few : goal.type_entries-requires-clause-few
type_entries-requires-clause-few c = rw c.in_ok-types.ensures (types_few c.args.text.now c.requires)

pub domain_fault-requires-clause-few : goal.domain_fault-requires-clause-few
domain_fault-requires-clause-few c = rw c.in_ok-types.ensures (types_few c.args.text.now c.requires)

pub new-requires : goal.new-requires
new-requires c = task-fits c.args.text.now c.in_ok-task_parts.field-0 c.requires (record {
  faultless = none_told (IsDomainFault c.args.text.now) c.in_ok-fault.field-0 c.in_default.is c.in_ok-fault.ensures;
  within = sym c.in_default-limit_of_domain.ensures;
  made = c.in_ok-task_parts.ensures;
})
