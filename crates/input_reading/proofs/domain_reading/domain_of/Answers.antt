use Rattle.std.proofs.Common.{refl, Err}
use Rattle.std.proofs.lemmas.Result.{err_from_is_err_and}
use Rattle.input_reading.specs.Faults.{parsing_fault, task_fault}
use Rattle.pddl_parser.specs.Replies.{IsDomainReply}
use Rattle.pddl_task.specs.Replies.{IsTaskReply}
use Rattle.input_reading.specs.Steps.{or_tell, goes_on}
use Rattle.input_reading.proofs.Chain.{then_next, then_end}
use Rattle.input_reading.proofs.Sequels.{after_domain_text, after_task}
use Rattle.input_reading.proofs.domain_reading.domain_of.Goals as goal

pub returns-in_err-text-clause-due : goal.returns-in_err-text-clause-due
returns-in_err-text-clause-due c =
    let p = err_from_is_err_and c.from_residual.result c.from_residual.ensures.1 in
    rw (p.1, p.2) (then_end (or_tell c.args.name.now parsing_fault (IsDomainReply c.args.bytes.now)) (after_domain_text c.args.name.now) c.in_err-text.field-0.0 c.in_err-text.ensures.due)

pub returns-in_err-task-clause-due : goal.returns-in_err-task-clause-due
returns-in_err-task-clause-due c =
    let p = err_from_is_err_and c.from_residual-in_err-task.result c.from_residual-in_err-task.ensures.1 in
    rw (p.1, p.2) (then_next (or_tell c.args.name.now parsing_fault (IsDomainReply c.args.bytes.now)) (after_domain_text c.args.name.now) c.in_ok-text.text (Err c.in_err-task.field-0.0) c.in_ok-text.ensures.due
    (then_end (or_tell c.args.name.now task_fault (IsTaskReply c.in_ok-text.text)) (after_task c.in_ok-text.text) c.in_err-task.field-0.0 c.in_err-task.ensures.due))

pub returns-clause-due : goal.returns-clause-due
returns-clause-due c = goes_on c.in_ok-text.ensures.due (goes_on c.in_ok-task.ensures.due refl)

pub returns-clause-read : goal.returns-clause-read
returns-clause-read c = record { text = c.in_ok-text.ensures.read; task = c.in_ok-task.ensures.due }
