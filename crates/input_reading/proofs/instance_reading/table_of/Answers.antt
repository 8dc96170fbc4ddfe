use Rattle.std.proofs.Common.{Err}
use Rattle.std.proofs.lemmas.Result.{err_from_is_err_and}
use Rattle.pddl_parser.specs.Replies.{IsProblemReply}
use Rattle.pddl_task.specs.Replies.{IsInstanceReply}
use Rattle.input_reading.specs.Faults.{parsing_fault, task_fault}
use Rattle.input_reading.specs.Steps.{or_tell}
use Rattle.input_reading.proofs.Chain.{then_next, then_end}
use Rattle.input_reading.proofs.Sequels.{after_problem_text, after_instance}
use Rattle.input_reading.proofs.instance_reading.table_of.Goals as goal

pub returns-in_err-text-clause-due : goal.returns-in_err-text-clause-due
returns-in_err-text-clause-due c =
    let p = err_from_is_err_and c.from_residual.result c.from_residual.ensures.1 in
    rw (p.1, p.2) (then_end (or_tell c.args.name.now parsing_fault (IsProblemReply c.args.bytes.now)) (after_problem_text c.args.name.now c.args.domain.now) c.in_err-text.field-0.0 c.in_err-text.ensures.due)

pub returns-in_err-instance-clause-due : goal.returns-in_err-instance-clause-due
returns-in_err-instance-clause-due c =
    let p = err_from_is_err_and c.from_residual-in_err-instance.result c.from_residual-in_err-instance.ensures.1 in
    rw (p.1, p.2) (then_next (or_tell c.args.name.now parsing_fault (IsProblemReply c.args.bytes.now)) (after_problem_text c.args.name.now c.args.domain.now) c.in_ok-text.text (Err c.in_err-instance.field-0.0) c.in_ok-text.ensures.due
    (then_end (or_tell c.args.name.now task_fault (IsInstanceReply c.args.domain.now.text c.in_ok-text.text)) (after_instance c.args.name.now c.args.domain.now) c.in_err-instance.field-0.0 c.in_err-instance.ensures.due))

pub returns-clause-due : goal.returns-clause-due
returns-clause-due c =
    then_next (or_tell c.args.name.now parsing_fault (IsProblemReply c.args.bytes.now)) (after_problem_text c.args.name.now c.args.domain.now) c.in_ok-text.text c.ground_atoms_of.result c.in_ok-text.ensures.due
    (then_next (or_tell c.args.name.now task_fault (IsInstanceReply c.args.domain.now.text c.in_ok-text.text)) (after_instance c.args.name.now c.args.domain.now) c.in_ok-instance.instance c.ground_atoms_of.result c.in_ok-instance.ensures.due c.ground_atoms_of.ensures.due)
