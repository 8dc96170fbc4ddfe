-- What the files hold where the machine of a job was made.
use Rattle.std.proofs.Common.{◌≡◌, ℕ, zero, suc, ◌≤◌, List, [], ◌∷◌, length, map, slice_get, Option, Some, None, Ok, Err, Bool, true, false, nat_lt, if◌then◌else◌, refl, sym, ◌∙◌, ap, subst, arith}
use Rattle.std.proofs.lemmas.Bool.Decides.{nat_tests}
use Rattle.std.specs.List.{AllZip}
use Rattle.bfgp_outside.specs.Shelf.{Files}
use Rattle.bfgp_outside.specs.Whole.{whole_of}
use Rattle.bfgp_outside.specs.declared.whole.ReadRefusal.TheVariants.{TooLong}
use Rattle.pddl_parser.specs.Replies.{HasDomain, IsDomainText}
use Rattle.pddl_task.specs.Parts.{TaskOf}
use Rattle.pddl_task.proofs.InstanceFits.{instance-fits}
use Rattle.pddl_task.proofs.TaskFits.{task-fits}
use Rattle.ground_state.specs.declared.parts.InstanceParts.{InstanceParts}
use Rattle.ground_state.specs.Task.{IsTask}
use Rattle.ground_state.specs.Instance.{IsInstance}
use Rattle.ground_state.specs.Ground.{Ground, ground_of}
use Rattle.program_model.specs.declared.alphabet.TheConstants.{MAX_OPS}
use Rattle.pointer_machine.specs.Operations.{operation_count}
use Rattle.pointer_machine.specs.Machine.{MachineParts}
use Rattle.input_reading.specs.declared.domain_reading.Domain.{Domain}
use Rattle.flag_rules.specs.declared.file.TheConstants.{MAX_FILE_BYTES}
use Rattle.command_words.specs.declared.job.Inputs.{Inputs}
use Rattle.input_reading.specs.Steps.{goes_on}
use Rattle.input_reading.specs.Inner.Domains.{IsReadDomain}
use Rattle.input_reading.specs.Inputs.{domain_due, tables_due, machine_due}
use Rattle.input_reading.specs.Posed.{HoldsInstance, Poses}

-- a file that was read whole is held
pub whole_held : (held : Option (List ℕ)) (limit : ℕ) (bytes : List ℕ) → Ok bytes ≡ whole_of held limit → held ≡ Some bytes
whole_held None limit bytes read = absurd (cc)
whole_held (Some file) limit bytes read = by_test (nat_lt limit (length file)) read
  where
    by_test : (long : Bool) → Ok bytes ≡ (if long then Err TooLong else Ok file) → Some file ≡ Some bytes
    by_test true cut = absurd (cc)
    by_test false all = cc

-- a file that was read whole has no more bytes than the limit
whole_short : (held : Option (List ℕ)) (limit : ℕ) (bytes : List ℕ) → Ok bytes ≡ whole_of held limit → length bytes ≤ limit
whole_short None limit bytes read = absurd (cc)
whole_short (Some file) limit bytes read = by_test (nat_lt limit (length file)) refl read
  where
    by_test : (long : Bool) → nat_lt limit (length file) ≡ long → Ok bytes ≡ (if long then Err TooLong else Ok file) → length bytes ≤ limit
    by_test true is cut = absurd (cc)
    by_test false is all = let same : bytes ≡ file = cc in subst (λ (l : List ℕ). length l ≤ limit) (sym same) (grind (arith, nat_tests))

-- a file that has no more bytes is read whole
pub short_whole : (bytes : List ℕ) (limit : ℕ) → length bytes ≤ limit → Ok bytes ≡ whole_of (Some bytes) limit
short_whole bytes limit few = by_test (nat_lt limit (length bytes)) refl
  where
    by_test : (long : Bool) → nat_lt limit (length bytes) ≡ long → Ok bytes ≡ (if long then Err TooLong else Ok bytes)
    by_test true is = absurd (grind (arith, nat_tests))
    by_test false is = refl

-- a domain that was read, with its task
record Numbered (bytes : List ℕ) (domain : Domain) : Type 0 where
  reads : HasDomain bytes domain.text
  task_is : TaskOf domain.text domain.task

domain_numbered : (name bytes : List ℕ) (domain : Domain) → domain_due name bytes (Ok domain) → Numbered bytes domain
domain_numbered name bytes domain (goes_on {a = text} text_is (goes_on {a = task} task_is made)) =
    let is : record { text = text; task = task } ≡ domain = cc in
    subst (Numbered bytes) is (record { reads = text_is; task_is = task_is })

-- instance files that were read: they hold instances, and the tables are those of the instances
record HeldTables (files : Files) (domain : Domain) (names : List (List ℕ)) (tables : List Ground) : Type 0 where
  instances : List InstanceParts
  held : AllZip (HoldsInstance files domain.text) names instances
  made : tables ≡ map (ground_of domain.task) instances
  fit : (t : ℕ) (instance : InstanceParts) → slice_get instances t ≡ Some instance → IsInstance domain.task instance

tables_held : (files : Files) (domain : Domain) (names : List (List ℕ)) (tables : List Ground) → IsReadDomain domain → tables_due files domain names (Ok tables) → HeldTables files domain names tables
tables_held files domain [] tables is made = record { instances = []; held = tt; made = cc; fit = λ t instance here. absurd (cc) }
tables_held files domain (name ∷ names) tables is (goes_on {a = bytes} read (goes_on {a = table} (goes_on {a = problem} problem_is (goes_on {a = instance} instance_is table_is)) (goes_on {a = others} others_are made))) =
    let rest = tables_held files domain names others is others_are in
    let all : tables ≡ table ∷ others = cc in
    let fits = instance-fits domain.text problem domain.task instance is.text is.task (bytes, whole_short (files name) MAX_FILE_BYTES bytes read, problem_is) instance_is in
    record {
      instances = instance ∷ rest.instances;
      held = (
        record {
          bytes = bytes;
          held = whole_held (files name) MAX_FILE_BYTES bytes read;
          problem = problem;
          reads = problem_is;
          instance_is = instance_is;
        },
        rest.held,
      );
      made = all ∙ ap (λ (t : Ground). t ∷ others) table_is.0 ∙ ap (λ (l : List Ground). ground_of domain.task instance ∷ l) rest.made;
      fit = each instance fits rest.instances rest.fit;
    }
  where
    each : (first : InstanceParts) → IsInstance domain.task first → (rest : List InstanceParts) → ((t : ℕ) (instance : InstanceParts) → slice_get rest t ≡ Some instance → IsInstance domain.task instance) → (t : ℕ) (instance : InstanceParts) → slice_get (first ∷ rest) t ≡ Some instance → IsInstance domain.task instance
    each first fits rest fit zero instance here = let is : first ≡ instance = cc in subst (IsInstance domain.task) is fits
    each first fits rest fit (suc t) instance here = fit t instance here

-- a machine that was made: the inputs pose a task and instances, of which it is
pub record HeldMachine (files : Files) (inputs : Inputs) (pointers : ℕ) (machine : MachineParts) : Type 0 where
  pub posed : Poses inputs files
  pub is_task : IsTask posed.task
  pub fit : (t : ℕ) (instance : InstanceParts) → slice_get posed.instances t ≡ Some instance → IsInstance posed.task instance
  pub few : operation_count posed.task pointers ≤ MAX_OPS
  pub is : machine ≡ record { task = posed.task; tables = map (ground_of posed.task) posed.instances; pointers = pointers }

pub machine_held : (files : Files) (inputs : Inputs) (pointers : ℕ) (machine : MachineParts) → machine_due files inputs pointers (Ok machine) → HeldMachine files inputs pointers machine
machine_held files inputs pointers machine (goes_on {a = bytes} read (goes_on {a = domain} domain_is (goes_on {a = tables} tables_are (goes_on {a = counted} few made)))) =
    let numbered = domain_numbered inputs.domain bytes domain domain_is in
    let is_text : IsDomainText domain.text = (bytes, whole_short (files inputs.domain) MAX_FILE_BYTES bytes read, numbered.reads) in
    let held = tables_held files domain inputs.instances tables (record { text = is_text; task = numbered.task_is }) tables_are in
    let is : machine ≡ record { task = domain.task; tables = tables; pointers = pointers } = cc in
    record {
      posed = record {
        domain_bytes = bytes;
        domain_held = whole_held (files inputs.domain) MAX_FILE_BYTES bytes read;
        domain = domain.text;
        domain_reads = numbered.reads;
        task = domain.task;
        task_is = numbered.task_is;
        instances = held.instances;
        instances_are = held.held;
      };
      is_task = task-fits domain.text domain.task is_text numbered.task_is;
      fit = held.fit;
      few = few;
      is = is ∙ ap (λ (t : List Ground). record { task = domain.task; tables = t; pointers = pointers }) held.made;
    }
