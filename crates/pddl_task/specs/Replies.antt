-- What `task` and `instance` have to answer.
use Rattle.std.specs.Prelude.{◌≡◌, ◌⊎◌, Option, Some, None, Result, Ok, Err}
use Rattle.pddl_parser.specs.declared.texts.DomainText.{DomainText}
use Rattle.pddl_parser.specs.declared.texts.ProblemText.{ProblemText}
use Rattle.ground_state.specs.declared.parts.TaskParts.{TaskParts}
use Rattle.ground_state.specs.declared.parts.InstanceParts.{InstanceParts}
use Rattle.pddl_task.specs.declared.fault.Fault.{Fault}
use Rattle.pddl_task.specs.declared.refusal.TaskRefusal.{TaskRefusal}
use Rattle.pddl_task.specs.declared.refusal.TaskRefusal.TheVariants.{OutOfMemory}
use Rattle.pddl_task.specs.Faults.{IsFirst, IsDomainFault, IsProblemFault, domain_limit, problem_limit, refusal_of}
use Rattle.pddl_task.specs.Parts.{TaskOf, InstanceOf}

-- a refusal tells the first fault, or, where there is no fault, the first limit that is exceeded
abbrev pub IsRefusal : (Fault → Type 0) → Option TaskRefusal → TaskRefusal → Type 0
IsRefusal IsFault limit refusal =
    ((fault : Fault) × IsFirst IsFault (Some fault) × (refusal ≡ refusal_of fault)) ⊎ (IsFirst IsFault None × (limit ≡ Some refusal))

-- a right answer, of which there is at most one: the parts, or a refusal
abbrev pub HasReply : {A : Type 0} → (A → Type 0) → (Fault → Type 0) → Option TaskRefusal → Result A TaskRefusal → Type 0
HasReply Of IsFault limit (Ok parts) = Of parts
HasReply Of IsFault limit (Err refusal) = IsRefusal IsFault limit refusal

-- a right answer to the text of a domain
abbrev pub HasTaskReply : DomainText → Result TaskParts TaskRefusal → Type 0
HasTaskReply domain = HasReply (TaskOf domain) (IsDomainFault domain) (domain_limit domain)

-- a right answer to the text of a problem over a domain
abbrev pub HasInstanceReply : DomainText → ProblemText → Result InstanceParts TaskRefusal → Type 0
HasInstanceReply domain problem = HasReply (InstanceOf domain problem) (IsProblemFault domain problem) (problem_limit domain problem)

-- a right answer, or want of memory, which says nothing
abbrev pub OrMemory : {A : Type 0} → (Result A TaskRefusal → Type 0) → Result A TaskRefusal → Type 0
OrMemory Is (Ok parts) = Is (Ok parts)
OrMemory Is (Err OutOfMemory) = Unit {0}
OrMemory Is (Err refusal) = Is (Err refusal)

-- what `task` has to answer
abbrev pub IsTaskReply : DomainText → Result TaskParts TaskRefusal → Type 0
IsTaskReply domain = OrMemory (HasTaskReply domain)

-- what `instance` has to answer
abbrev pub IsInstanceReply : DomainText → ProblemText → Result InstanceParts TaskRefusal → Type 0
IsInstanceReply domain problem = OrMemory (HasInstanceReply domain problem)
