-- Domains that were read.
use Rattle.pddl_parser.specs.Replies.{IsDomainText}
use Rattle.pddl_task.specs.Parts.{TaskOf}
use Rattle.input_reading.specs.declared.domain_reading.Domain.{Domain}

-- the text is one that was read, and the task is the text's
pub record IsReadDomain (domain : Domain) : Type 0 where
  pub text : IsDomainText domain.text
  pub task : TaskOf domain.text domain.task
