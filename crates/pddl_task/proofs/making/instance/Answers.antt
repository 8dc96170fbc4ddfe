use Rattle.std.proofs.Common.{sym, ◌∙◌}
use Rattle.pddl_task.specs.Faults.{IsProblemFault, problem_limit}
use Rattle.pddl_task.specs.Parts.{InstanceOf}
use Rattle.pddl_task.proofs.InstanceFits.{instance-fits}
use Rattle.pddl_task.proofs.Refusals.{none_told, told_limit}
use Rattle.pddl_task.proofs.making.instance.Goals as goal

pub returns-in-Some-limit_of_problem-clause-reply : goal.returns-in-Some-limit_of_problem-clause-reply
returns-in-Some-limit_of_problem-clause-reply c =
    told_limit (InstanceOf c.args.domain.now c.args.text.now) (IsProblemFault c.args.domain.now c.args.text.now) (problem_limit c.args.domain.now c.args.text.now) c.in-Some-limit_of_problem.limit
    (none_told (IsProblemFault c.args.domain.now c.args.text.now) c.in_ok-fault.field-0 c.in_default.is c.in_ok-fault.ensures)
    (sym c.in-Some-limit_of_problem.ensures)

pub new-requires : goal.new-requires
new-requires c = instance-fits c.args.domain.now c.args.text.now c.args.task.now c.in_ok-parts.parts c.requires.domain c.requires.task c.requires.text (record {
  faultless = none_told (IsProblemFault c.args.domain.now c.args.text.now) c.in_ok-fault.field-0 c.in_default.is c.in_ok-fault.ensures;
  within = sym c.in_default-limit_of_problem.ensures;
  made = c.in_ok-parts.ensures;
})

pub returns-clause-fits : goal.returns-clause-fits
returns-clause-fits c = instance-fits c.args.domain.now c.args.text.now c.args.task.now c.new.result c.requires.domain c.requires.task c.requires.text (record {
  faultless = none_told (IsProblemFault c.args.domain.now c.args.text.now) c.in_ok-fault.field-0 c.in_default.is c.in_ok-fault.ensures;
  within = sym c.in_default-limit_of_problem.ensures;
  made = c.new.ensures ∙ c.in_ok-parts.ensures;
})
