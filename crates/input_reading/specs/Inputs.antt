-- What is due of the input files: their bytes, a domain, tables of ground atoms, the machine over them, and a program.
use Rattle.std.specs.Prelude.{◌≡◌, ℕ, List, [], ◌∷◌, Result}
use Rattle.bfgp_outside.specs.Shelf.{Files}
use Rattle.bfgp_outside.specs.Whole.{whole_of}
use Rattle.bfgp_outside.specs.declared.whole.ReadRefusal.{ReadRefusal}
use Rattle.pddl_parser.specs.Replies.{IsDomainReply, IsProblemReply}
use Rattle.pddl_task.specs.Replies.{IsTaskReply, IsInstanceReply}
use Rattle.ground_state.specs.Ground.{Ground}
use Rattle.program_model.specs.Program.{Program}
use Rattle.program_text.specs.Reading.{Reads}
use Rattle.pointer_machine.specs.Machine.{MachineParts}
use Rattle.pointer_machine.specs.Texts.{operation_texts}
use Rattle.command_words.specs.declared.job.Inputs.{Inputs}
use Rattle.input_reading.specs.declared.domain_reading.Domain.{Domain}
use Rattle.flag_rules.specs.declared.file.TheConstants.{MAX_FILE_BYTES}
use Rattle.input_reading.specs.Faults.{reading_fault, parsing_fault, task_fault, ground_fault, machine_fault, program_fault}
use Rattle.input_reading.specs.Steps.{◌>>=◌, pure, or_tell}
use Rattle.input_reading.specs.Grounding.{IsGroundReply, IsCountReply}

-- the bytes of a file that is held and has at most so many, or why they are not taken
abbrev pub IsWhole : Files → ℕ → List ℕ → Result (List ℕ) ReadRefusal → Type 0
IsWhole files limit name result = result ≡ whole_of (files name) limit

-- the bytes of a file of at most so many, or the fault that it is absent or too long
abbrev pub file_due : Files → ℕ → List ℕ → Result (List ℕ) (List ℕ) → Type 0
file_due files limit name = or_tell name reading_fault (IsWhole files limit name)

-- the bytes of a domain file are read, and its names numbered
abbrev pub domain_due : List ℕ → List ℕ → Result Domain (List ℕ) → Type 0
domain_due name bytes = do
  text ← or_tell name parsing_fault (IsDomainReply bytes)
  task ← or_tell name task_fault (IsTaskReply text)
  pure (record { text = text; task = task })

-- the bytes of an instance file are read, its names numbered, and its ground atoms counted
abbrev pub table_due : List ℕ → Domain → List ℕ → Result Ground (List ℕ) → Type 0
table_due name domain bytes = do
  text ← or_tell name parsing_fault (IsProblemReply bytes)
  instance ← or_tell name task_fault (IsInstanceReply domain.text text)
  or_tell name ground_fault (IsGroundReply domain.task instance)

-- all of each instance file before the next
abbrev pub tables_due : Files → Domain → List (List ℕ) → Result (List Ground) (List ℕ) → Type 0
tables_due files domain [] = pure []
tables_due files domain (name ∷ names) = do
  bytes ← file_due files MAX_FILE_BYTES name
  table ← table_due name domain bytes
  tables ← tables_due files domain names
  pure (table ∷ tables)

-- the machine over inputs and so many pointers: all of the domain file first, then the instance files in order, then the
-- operations are counted
abbrev pub machine_due : Files → Inputs → ℕ → Result MachineParts (List ℕ) → Type 0
machine_due files inputs pointers = do
  bytes ← file_due files MAX_FILE_BYTES inputs.domain
  domain ← domain_due inputs.domain bytes
  tables ← tables_due files domain inputs.instances
  counted ← or_tell inputs.domain machine_fault (IsCountReply domain.task pointers)
  pure (record { task = domain.task; tables = tables; pointers = pointers })

-- the texts of instances over a domain are read, in order; their faults are told of this name
abbrev pub tables_of_texts_due : List ℕ → Domain → List (List ℕ) → Result (List Ground) (List ℕ) → Type 0
tables_of_texts_due name domain [] = pure []
tables_of_texts_due name domain (text ∷ texts) = do
  table ← table_due name domain text
  tables ← tables_of_texts_due name domain texts
  pure (table ∷ tables)

-- the machine over the texts of a domain and of instances, and so many pointers; their faults are told of this name
abbrev pub machine_of_texts_due : List ℕ → List ℕ → List (List ℕ) → ℕ → Result MachineParts (List ℕ) → Type 0
machine_of_texts_due name domain_text problems pointers = do
  domain ← domain_due name domain_text
  tables ← tables_of_texts_due name domain problems
  counted ← or_tell name machine_fault (IsCountReply domain.task pointers)
  pure (record { task = domain.task; tables = tables; pointers = pointers })

-- the bytes of a program file are read, over the operations of a machine
abbrev pub program_due : MachineParts → List ℕ → List ℕ → Result Program (List ℕ) → Type 0
program_due machine name bytes = or_tell name program_fault (Reads (operation_texts machine.task machine.pointers) bytes)
