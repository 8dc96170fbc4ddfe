-- What follows each step of reading the input files.
use Rattle.std.proofs.Common.{ℕ, List, ◌∷◌, ◌++◌, Result}
use Rattle.pddl_parser.specs.declared.texts.DomainText.{DomainText}
use Rattle.pddl_parser.specs.declared.texts.ProblemText.{ProblemText}
use Rattle.ground_state.specs.declared.parts.TaskParts.{TaskParts}
use Rattle.ground_state.specs.declared.parts.InstanceParts.{InstanceParts}
use Rattle.ground_state.specs.Ground.{Ground}
use Rattle.bfgp_outside.specs.Shelf.{Files}
use Rattle.input_reading.specs.declared.domain_reading.Domain.{Domain}
use Rattle.pointer_machine.specs.Machine.{MachineParts}
use Rattle.command_words.specs.declared.job.Inputs.{Inputs}
use Rattle.input_reading.specs.Faults.{task_fault, ground_fault, machine_fault}
use Rattle.input_reading.specs.Steps.{◌>>=◌, pure, or_tell}
use Rattle.pddl_task.specs.Replies.{IsTaskReply, IsInstanceReply}
use Rattle.input_reading.specs.Grounding.{IsGroundReply, IsCountReply}
use Rattle.input_reading.specs.Inputs.{domain_due, table_due, tables_due, tables_of_texts_due}

-- after the task of a domain text
abbrev pub after_task : DomainText → TaskParts → Result Domain (List ℕ) → Type 0
after_task text task = pure (record { text = text; task = task })

-- after a domain text
abbrev pub after_domain_text : List ℕ → DomainText → Result Domain (List ℕ) → Type 0
after_domain_text name text = or_tell name task_fault (IsTaskReply text) >>= after_task text

-- after the parts of an instance
abbrev pub after_instance : List ℕ → Domain → InstanceParts → Result Ground (List ℕ) → Type 0
after_instance name domain instance = or_tell name ground_fault (IsGroundReply domain.task instance)

-- after an instance text
abbrev pub after_problem_text : List ℕ → Domain → ProblemText → Result Ground (List ℕ) → Type 0
after_problem_text name domain text = or_tell name task_fault (IsInstanceReply domain.text text) >>= after_instance name domain

-- some tables and those of the other instances
abbrev pub after_others : List Ground → List Ground → Result (List Ground) (List ℕ) → Type 0
after_others front others = pure (front ++ others)

-- after the table of the first instance
abbrev pub after_table : Files → Domain → List (List ℕ) → Ground → Result (List Ground) (List ℕ) → Type 0
after_table files domain names table = tables_due files domain names >>= (λ tables. pure (table ∷ tables))

-- after the bytes of the first instance's file
abbrev pub after_instance_bytes : Files → Domain → List ℕ → List (List ℕ) → List ℕ → Result (List Ground) (List ℕ) → Type 0
after_instance_bytes files domain name names bytes = table_due name domain bytes >>= after_table files domain names

-- after the operations were counted
abbrev pub after_count : Domain → List Ground → ℕ → Unit {0} → Result MachineParts (List ℕ) → Type 0
after_count domain tables pointers counted = pure (record { task = domain.task; tables = tables; pointers = pointers })

-- after the tables of the instances
abbrev pub after_tables : List ℕ → ℕ → Domain → List Ground → Result MachineParts (List ℕ) → Type 0
after_tables name pointers domain tables = or_tell name machine_fault (IsCountReply domain.task pointers) >>= after_count domain tables pointers

-- after the domain
abbrev pub after_domain : Files → Inputs → ℕ → Domain → Result MachineParts (List ℕ) → Type 0
after_domain files inputs pointers domain = tables_due files domain inputs.instances >>= after_tables inputs.domain pointers domain

-- after the bytes of the domain file
abbrev pub after_domain_bytes : Files → Inputs → ℕ → List ℕ → Result MachineParts (List ℕ) → Type 0
after_domain_bytes files inputs pointers bytes = domain_due inputs.domain bytes >>= after_domain files inputs pointers

-- after the domain, where the texts of the instances are held in memory
abbrev pub after_domain_of_texts : List ℕ → List (List ℕ) → ℕ → Domain → Result MachineParts (List ℕ) → Type 0
after_domain_of_texts name texts pointers domain = tables_of_texts_due name domain texts >>= after_tables name pointers domain
