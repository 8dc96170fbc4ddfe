-- What the input files hold: a task, and instances of it.
use Rattle.std.specs.Prelude.{◌≡◌, ℕ, List, Some}
use Rattle.std.specs.List.{AllZip}
use Rattle.bfgp_outside.specs.Shelf.{Files}
use Rattle.pddl_parser.specs.declared.texts.DomainText.{DomainText}
use Rattle.pddl_parser.specs.declared.texts.ProblemText.{ProblemText}
use Rattle.pddl_parser.specs.Replies.{HasDomain, HasProblem}
use Rattle.pddl_task.specs.Parts.{TaskOf, InstanceOf}
use Rattle.ground_state.specs.declared.parts.TaskParts.{TaskParts}
use Rattle.ground_state.specs.declared.parts.InstanceParts.{InstanceParts}
use Rattle.command_words.specs.declared.job.Inputs.{Inputs}

-- a file holds the text of an instance over a domain
pub record HoldsInstance (files : Files) (domain : DomainText) (name : List ℕ) (instance : InstanceParts) : Type 0 where
  pub bytes : List ℕ
  pub held : files name ≡ Some bytes
  pub problem : ProblemText
  pub reads : HasProblem bytes problem
  pub instance_is : InstanceOf domain problem instance

-- the inputs are files that hold the texts of a task and of instances of it
pub record Poses (inputs : Inputs) (files : Files) : Type 0 where
  pub domain_bytes : List ℕ
  pub domain_held : files inputs.domain ≡ Some domain_bytes
  pub domain : DomainText
  pub domain_reads : HasDomain domain_bytes domain
  pub task : TaskParts
  pub task_is : TaskOf domain task
  pub instances : List InstanceParts
  pub instances_are : AllZip (HoldsInstance files domain) inputs.instances instances
