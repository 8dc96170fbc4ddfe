-- What making the machine of a job comes to, from its last step to its first.
use Rattle.std.proofs.Common.{◌≡◌, ℕ, ◌<◌, ◌≤◌, List, length, Option, Result, Ok, Err, sym, ap, subst}
use Rattle.std.specs.Prelude.{IfOk, IfErr}
use Rattle.bfgp_outside.specs.Shelf.{Files, Knowing}
use Rattle.flag_rules.specs.declared.file.TheConstants.{MAX_FILE_BYTES}
use Rattle.ground_state.specs.declared.parts.TaskParts.{TaskParts}
use Rattle.ground_state.specs.Task.{IsTask}
use Rattle.ground_state.specs.Ground.{Ground}
use Rattle.program_model.specs.declared.alphabet.TheConstants.{MAX_OPS}
use Rattle.program_model.specs.declared.machine.TheConstants.{MAX_INSTANCES, MAX_POINTERS}
use Rattle.program_text.specs.Names.{AreNames}
use Rattle.pointer_machine.specs.Texts.{operation_texts}
use Rattle.pointer_machine.specs.Operations.{operation_count}
use Rattle.pointer_machine.specs.Machine.{MachineParts}
use Rattle.input_reading.specs.declared.domain_reading.Domain.{Domain}
use Rattle.command_words.specs.declared.job.Inputs.{Inputs}
use Rattle.input_reading.specs.declared.halt.Halt.{Halt}
use Rattle.input_reading.specs.Faults.{machine_fault}
use Rattle.input_reading.specs.Grounding.{IsCountReply}
use Rattle.input_reading.specs.Steps.{or_tell, Gives}
use Rattle.input_reading.specs.Inputs.{file_due, domain_due, tables_due, machine_due}
use Rattle.input_reading.proofs.OperationNames.{operations-named}
use Rattle.input_reading.proofs.Chain.{then_next, then_end, knowing_always, knowing_same, known_next, known_end}
use Rattle.input_reading.proofs.Sequels.{after_domain_bytes, after_domain, after_tables, after_count}

module _ (told : Option Files) (inputs : Inputs) (pointers : ℕ) where
  -- what a step over the files may come to
  abbrev Comes : {A : Type 0} → (Files → Result A (List ℕ) → Type 0) → Result A Halt → Type 0
  Comes step r = Knowing told (λ (files : Files). Gives (step files) r)

  -- a file that is read by a slice of its name
  file_at : (name : List ℕ) (r : Result (List ℕ) Halt) → name ≡ inputs.domain → Comes (λ files. file_due files MAX_FILE_BYTES name) r → Comes (λ files. file_due files MAX_FILE_BYTES inputs.domain) r
  file_at name r same here = subst (λ (n : List ℕ). Comes (λ files. file_due files MAX_FILE_BYTES n) r) same here

  -- after the bytes of the domain file, which the shelf tells
  pub from_bytes : (name bytes : List ℕ) (r : Result MachineParts Halt) → name ≡ inputs.domain → Comes (λ files. file_due files MAX_FILE_BYTES name) (Ok bytes) → Comes (λ files. after_domain_bytes files inputs pointers bytes) r → Comes (λ files. machine_due files inputs pointers) r
  from_bytes name bytes r same read rest =
      known_next told (λ files. file_due files MAX_FILE_BYTES inputs.domain) (λ files. after_domain_bytes files inputs pointers) bytes r (file_at name (Ok bytes) same read) rest

  pub at_bytes : (name : List ℕ) (halt : Halt) → name ≡ inputs.domain → Comes (λ files. file_due files MAX_FILE_BYTES name) (Err halt) → Comes (λ files. machine_due files inputs pointers) (Err halt)
  at_bytes name halt same ended =
      known_end told (λ files. file_due files MAX_FILE_BYTES inputs.domain) (λ files. after_domain_bytes files inputs pointers) halt (file_at name (Err halt) same ended)

  -- the domain by slices of the name and of the bytes
  domain_at : (name bytes slice : List ℕ) (r : Result Domain Halt) → name ≡ inputs.domain → slice ≡ bytes → Gives (domain_due name slice) r → Comes (λ files. domain_due inputs.domain bytes) r
  domain_at name bytes slice r same_name same here =
      knowing_always told (λ (files : Files). Gives (domain_due inputs.domain bytes) r) (λ files. subst (λ (b : List ℕ). Gives (domain_due inputs.domain b) r) same (subst (λ (n : List ℕ). Gives (domain_due n slice) r) same_name here))

  -- after the domain
  pub from_domain : (name bytes slice : List ℕ) (domain : Domain) (r : Result MachineParts Halt) → name ≡ inputs.domain → slice ≡ bytes → Gives (domain_due name slice) (Ok domain) → Comes (λ files. after_domain files inputs pointers domain) r → Comes (λ files. after_domain_bytes files inputs pointers bytes) r
  from_domain name bytes slice domain r same_name same here =
      known_next told (λ files. domain_due inputs.domain bytes) (λ files. after_domain files inputs pointers) domain r (domain_at name bytes slice (Ok domain) same_name same here)

  pub at_domain : (name bytes slice : List ℕ) (halt : Halt) → name ≡ inputs.domain → slice ≡ bytes → Gives (domain_due name slice) (Err halt) → Comes (λ files. after_domain_bytes files inputs pointers bytes) (Err halt)
  at_domain name bytes slice halt same_name same ended =
      known_end told (λ files. domain_due inputs.domain bytes) (λ files. after_domain files inputs pointers) halt (domain_at name bytes slice (Err halt) same_name same ended)

  module _ (later : Option Files) (kept : later ≡ told) (domain : Domain) (names : List (List ℕ)) (same : names ≡ inputs.instances) where
    -- the tables by a slice of the names, as the shelf tells later
    tables_at : (r : Result (List Ground) Halt) → Knowing later (λ (files : Files). Gives (tables_due files domain names) r) → Comes (λ files. tables_due files domain inputs.instances) r
    tables_at r here =
        knowing_same (λ (files : Files). Gives (tables_due files domain inputs.instances) r) kept (subst (λ (n : List (List ℕ)). Knowing later (λ (files : Files). Gives (tables_due files domain n) r)) same here)

    -- after the tables of the instances
    pub from_tables : (tables : List Ground) (r : Result MachineParts Halt) → Knowing later (λ (files : Files). Gives (tables_due files domain names) (Ok tables)) → Gives (after_tables inputs.domain pointers domain tables) r → Comes (λ files. after_domain files inputs pointers domain) r
    from_tables tables r read rest =
        known_next told (λ files. tables_due files domain inputs.instances) (λ files. after_tables inputs.domain pointers domain) tables r (tables_at (Ok tables) read) (knowing_always told (λ (files : Files). Gives (after_tables inputs.domain pointers domain tables) r) (λ files. rest))

    pub at_tables : (halt : Halt) → Knowing later (λ (files : Files). Gives (tables_due files domain names) (Err halt)) → Comes (λ files. after_domain files inputs pointers domain) (Err halt)
    at_tables halt ended =
        known_end told (λ files. tables_due files domain inputs.instances) (λ files. after_tables inputs.domain pointers domain) halt (tables_at (Err halt) ended)

-- the texts of the operations of the machine are names
pub all_named : (task : TaskParts) (tables : List Ground) (pointers : ℕ) (r : Result MachineParts Halt) → IsTask task → 0 < pointers → pointers ≤ MAX_POINTERS → IfOk r (λ machine. operation_count task pointers ≤ MAX_OPS) → IfOk r (λ machine. machine ≡ record { task = task; tables = tables; pointers = pointers }) → IfOk r (λ machine. AreNames (operation_texts machine.task machine.pointers))
all_named task tables pointers (Ok machine) is_task some few count is = subst (λ (m : MachineParts). AreNames (operation_texts m.task m.pointers)) (sym is) (operations-named task pointers is_task some few count)
all_named task tables pointers (Err halt) is_task some few count is = tt

-- the machine has as many pointers as were asked for
pub as_many_pointers : (task : TaskParts) (tables : List Ground) (pointers : ℕ) (r : Result MachineParts Halt) → IfOk r (λ machine. machine ≡ record { task = task; tables = tables; pointers = pointers }) → IfOk r (λ machine. machine.pointers ≡ pointers)
as_many_pointers task tables pointers (Ok machine) is = ap (λ (m : MachineParts). m.pointers) is
as_many_pointers task tables pointers (Err halt) is = tt

-- and as many instances as there are tables
pub some_instances : (task : TaskParts) (tables : List Ground) (pointers : ℕ) (r : Result MachineParts Halt) → (0 < length tables) × (length tables ≤ MAX_INSTANCES) → IfOk r (λ machine. machine ≡ record { task = task; tables = tables; pointers = pointers }) → IfOk r (λ machine. (0 < length machine.tables) × (length machine.tables ≤ MAX_INSTANCES))
some_instances task tables pointers (Ok machine) some is = subst (λ (m : MachineParts). (0 < length m.tables) × (length m.tables ≤ MAX_INSTANCES)) (sym is) some
some_instances task tables pointers (Err halt) some is = tt

-- the machine, or the fault that there are too many operations
pub counted : (name : List ℕ) (pointers : ℕ) (domain : Domain) (tables : List Ground) (slice : List ℕ) (r : Result MachineParts Halt) → slice ≡ name → IfOk r (λ machine. operation_count domain.task pointers ≤ MAX_OPS) → IfErr r (λ halt. Gives (or_tell slice machine_fault (IsCountReply domain.task pointers)) (Err halt)) → IfOk r (λ machine. machine ≡ record { task = domain.task; tables = tables; pointers = pointers }) → Gives (after_tables name pointers domain tables) r
counted name pointers domain tables slice (Ok machine) same few told is =
    then_next (or_tell name machine_fault (IsCountReply domain.task pointers)) (after_count domain tables pointers) tt (Ok machine) few (ap Ok is)
counted name pointers domain tables slice (Err halt) same few told is =
    then_end (or_tell name machine_fault (IsCountReply domain.task pointers)) (after_count domain tables pointers) halt (subst (λ (n : List ℕ). Gives (or_tell n machine_fault (IsCountReply domain.task pointers)) (Err halt)) same told)
