-- The machine over texts without faults: it is made, but for want of memory.
use Rattle.std.proofs.Common.{◌≡◌, ℕ, ◌≤◌, List, [], ◌∷◌, map, Option, None, Result, Ok, Err, refl, ◌∙◌, ap, subst, arith}
use Rattle.std.specs.Prelude.{IsSomeAnd}
use Rattle.std.specs.List.{AllZip}
use Rattle.pddl_parser.specs.declared.refusal.ParseRefusal.{ParseRefusal}
use Rattle.pddl_parser.specs.declared.refusal.ParseRefusal.TheVariants as parse
use Rattle.pddl_parser.specs.declared.texts.DomainText.{DomainText}
use Rattle.pddl_parser.specs.declared.texts.ProblemText.{ProblemText}
use Rattle.pddl_parser.specs.Replies.{HasDomain, HasProblem, IsDomainReply, IsProblemReply}
use Rattle.pddl_task.specs.declared.refusal.TaskRefusal.{TaskRefusal}
use Rattle.pddl_task.specs.declared.refusal.TaskRefusal.TheVariants as tasks
use Rattle.pddl_task.specs.Parts.{TaskOf, InstanceOf}
use Rattle.pddl_task.specs.Replies.{IsTaskReply, IsInstanceReply}
use Rattle.pddl_task.proofs.OneAnswer.{one-task, one-instance}
use Rattle.ground_state.specs.declared.parts.TaskParts.{TaskParts}
use Rattle.ground_state.specs.declared.parts.InstanceParts.{InstanceParts}
use Rattle.ground_state.specs.declared.parts.TheConstants.{MAX_ATOMS}
use Rattle.ground_state.specs.declared.refusal.GroundRefusal.{GroundRefusal}
use Rattle.ground_state.specs.declared.refusal.GroundRefusal.TheVariants as grounded
use Rattle.ground_state.specs.Ground.{Ground, ground_of, atoms_needed}
use Rattle.program_model.specs.declared.alphabet.TheConstants.{MAX_OPS}
use Rattle.pointer_machine.specs.declared.refusal.MachineRefusal.{MachineRefusal}
use Rattle.pointer_machine.specs.declared.refusal.MachineRefusal.TheVariants as made
use Rattle.pointer_machine.specs.Machine.{MachineParts}
use Rattle.pointer_machine.specs.Operations.{operation_count}
use Rattle.input_reading.specs.declared.domain_reading.Domain.{Domain}
use Rattle.input_reading.specs.declared.fault.Fault.{Fault}
use Rattle.input_reading.specs.Faults.{parsing_fault, task_fault, ground_fault, machine_fault, fault_line}
use Rattle.input_reading.specs.Grounding.{IsGroundReply, IsCountReply}
use Rattle.input_reading.specs.Steps.{◌>>=◌, goes_on, ends, or_tell, pure}
use Rattle.input_reading.specs.Inputs.{domain_due, table_due, tables_of_texts_due, machine_of_texts_due}

-- a text is that of a domain with this task, and of no other, and nothing is refused of it but for want of memory
pub record IsFaultlessDomain (text : List ℕ) (task : TaskParts) : Type 0 where
  pub read : (refusal : ParseRefusal) → IsDomainReply text (Err refusal) → refusal ≡ parse.OutOfMemory
  pub numbered : (domain : DomainText) → HasDomain text domain → (refusal : TaskRefusal) → IsTaskReply domain (Err refusal) → refusal ≡ tasks.OutOfMemory
  pub task_is : (domain : DomainText) → HasDomain text domain → (parts : TaskParts) → IsTaskReply domain (Ok parts) → parts ≡ task

-- a text is that of this instance over the domain of a text, and of no other, and nothing is refused of it but for want of memory
pub record IsFaultlessProblem (domain_text : List ℕ) (task : TaskParts) (text : List ℕ) (instance : InstanceParts) : Type 0 where
  pub read : (refusal : ParseRefusal) → IsProblemReply text (Err refusal) → refusal ≡ parse.OutOfMemory
  pub numbered : (domain : DomainText) → HasDomain domain_text domain → (problem : ProblemText) → HasProblem text problem → (refusal : TaskRefusal) → IsInstanceReply domain problem (Err refusal) → refusal ≡ tasks.OutOfMemory
  pub instance_is : (domain : DomainText) → HasDomain domain_text domain → (problem : ProblemText) → HasProblem text problem → (parts : InstanceParts) → IsInstanceReply domain problem (Ok parts) → parts ≡ instance
  pub few_atoms : atoms_needed task instance ≤ MAX_ATOMS

-- a text whose domains all have a task is that of a domain with no other
pub one_task : (text : List ℕ) (task : TaskParts) → ((domain : DomainText) → HasDomain text domain → TaskOf domain task) → (domain : DomainText) → HasDomain text domain → (parts : TaskParts) → IsTaskReply domain (Ok parts) → parts ≡ task
one_task text task are domain reads parts numbered = let same = one-task domain (Ok parts) (Ok task) numbered (are domain reads) in cc

-- and so of a text and an instance
pub one_instance : (domain_text text : List ℕ) (instance : InstanceParts) → ((domain : DomainText) → HasDomain domain_text domain → (problem : ProblemText) → HasProblem text problem → InstanceOf domain problem instance) → (domain : DomainText) → HasDomain domain_text domain → (problem : ProblemText) → HasProblem text problem → (parts : InstanceParts) → IsInstanceReply domain problem (Ok parts) → parts ≡ instance
one_instance domain_text text instance are domain reads problem is parts numbered = let same = one-instance domain problem (Ok parts) (Ok instance) numbered (are domain reads problem is) in cc

-- no line tells a fault where the refusal is none
no_fault : {E : Type 0} (fault_of : E → Option Fault) (refusal memory : E) (P : Fault → Type 0) → fault_of memory ≡ None → refusal ≡ memory → IsSomeAnd (fault_of refusal) P → ⊥
no_fault fault_of refusal memory P none is told =
    let known : IsSomeAnd None P = subst (λ (o : Option Fault). IsSomeAnd o P) (ap fault_of is ∙ none) told in
    absurd known

-- a call that refuses nothing but for want of memory tells no line
no_line : {A E : Type 0} (name line : List ℕ) (fault_of : E → Option Fault) (Allowed : Result A E → Type 0) (memory : E) → fault_of memory ≡ None → ((refusal : E) → Allowed (Err refusal) → refusal ≡ memory) → or_tell name fault_of Allowed (Err line) → ⊥
no_line name line fault_of Allowed memory none only told =
    no_fault fault_of told.0 memory (λ fault. line ≡ fault_line name fault) none (only told.0 told.1) told.2

-- the domain is read, with its task
record IsFound (text : List ℕ) (task : TaskParts) (r : Result Domain (List ℕ)) : Type 0 where
  domain : Domain
  is : r ≡ Ok domain
  reads : HasDomain text domain.text
  task_is : domain.task ≡ task

-- the grounding of an instance that has few enough atoms tells no line
few_grounded : (task : TaskParts) (instance : InstanceParts) → atoms_needed task instance ≤ MAX_ATOMS → (refusal : GroundRefusal) → IsGroundReply task instance (Err refusal) → refusal ≡ grounded.OutOfMemory
few_grounded task instance few (grounded.TooManyAtoms count) many = absurd (omega (arith, few, many.0, many.1))
few_grounded task instance few grounded.OutOfMemory many = refl

-- nor does the counting of few enough operations
few_counted : (task : TaskParts) (pointers : ℕ) → operation_count task pointers ≤ MAX_OPS → (refusal : MachineRefusal) → IsCountReply task pointers (Err refusal) → refusal ≡ made.OutOfMemory
few_counted task pointers few (made.TooManyOps count) many = absurd (omega (arith, few, many.0, many.1))
few_counted task pointers few made.OutOfMemory many = refl

module _ (name domain_text : List ℕ) (task : TaskParts) (faultless : IsFaultlessDomain domain_text task) where
  domain_found : (r : Result Domain (List ℕ)) → domain_due name domain_text r → IsFound domain_text task r
  domain_found _ (ends {line = line} told) = absurd (no_line name line parsing_fault (IsDomainReply domain_text) parse.OutOfMemory refl faultless.read told)
  domain_found _ (goes_on {a = text} reads (ends {line = line} told)) = absurd (no_line name line task_fault (IsTaskReply text) tasks.OutOfMemory refl (faultless.numbered text reads) told)
  domain_found r (goes_on {a = text} reads (goes_on {a = parts} numbered made)) = record { domain = record { text = text; task = parts }; is = made; reads = reads; task_is = faultless.task_is text reads parts numbered }

  module _ (domain : Domain) (reads : HasDomain domain_text domain.text) (task_is : domain.task ≡ task) where
    -- the ground atoms of one instance
    ground_found : (instance parts : InstanceParts) → parts ≡ instance → atoms_needed task instance ≤ MAX_ATOMS → (r : Result Ground (List ℕ)) → or_tell name ground_fault (IsGroundReply domain.task parts) r → r ≡ Ok (ground_of task instance)
    ground_found instance parts is few (Ok table) found = ap Ok (found.0 ∙ ap (λ (t : TaskParts). ground_of t parts) task_is ∙ ap (ground_of task) is)
    ground_found instance parts is few (Err line) told =
        let same : atoms_needed domain.task parts ≡ atoms_needed task instance = ap (λ (t : TaskParts). atoms_needed t parts) task_is ∙ ap (atoms_needed task) is in
        absurd (no_line name line ground_fault (IsGroundReply domain.task parts) grounded.OutOfMemory refl (few_grounded domain.task parts (omega (arith, same, few))) told)

    table_found : (text : List ℕ) (instance : InstanceParts) → IsFaultlessProblem domain_text task text instance → (r : Result Ground (List ℕ)) → table_due name domain text r → r ≡ Ok (ground_of task instance)
    table_found text instance good _ (ends {line = line} told) = absurd (no_line name line parsing_fault (IsProblemReply text) parse.OutOfMemory refl good.read told)
    table_found text instance good _ (goes_on {a = problem} is (ends {line = line} told)) = absurd (no_line name line task_fault (IsInstanceReply domain.text problem) tasks.OutOfMemory refl (good.numbered domain.text reads problem is) told)
    table_found text instance good r (goes_on {a = problem} is (goes_on {a = parts} numbered found)) = ground_found instance parts (good.instance_is domain.text reads problem is parts numbered) good.few_atoms r found

    -- those of all instances, in order
    tables_found : (texts : List (List ℕ)) (instances : List InstanceParts) → AllZip (IsFaultlessProblem domain_text task) texts instances → (r : Result (List Ground) (List ℕ)) → tables_of_texts_due name domain texts r → r ≡ Ok (map (ground_of task) instances)
    tables_found [] [] good r found = found
    tables_found [] (instance ∷ instances) good r found = absurd good
    tables_found (text ∷ texts) [] good r found = absurd good
    tables_found (text ∷ texts) (instance ∷ instances) good _ (ends {line = line} told) = let is = table_found text instance good.0 (Err line) told in absurd (cc)
    tables_found (text ∷ texts) (instance ∷ instances) good _ (goes_on {a = table} found (ends {line = line} told)) = let is = tables_found texts instances good.1 (Err line) told in absurd (cc)
    tables_found (text ∷ texts) (instance ∷ instances) good r (goes_on {a = table} found (goes_on {a = tables} others made)) =
        let first = table_found text instance good.0 (Ok table) found in
        let rest = tables_found texts instances good.1 (Ok tables) others in
        let table_is : table ≡ ground_of task instance = cc in
        let tables_are : tables ≡ map (ground_of task) instances = cc in
        made ∙ ap Ok (ap (λ (t : Ground). t ∷ tables) table_is ∙ ap (λ (l : List Ground). ground_of task instance ∷ l) tables_are)

  -- the machine over texts without faults, of few enough operations, is that of the task and the instances
  pub machine_found : (texts : List (List ℕ)) (instances : List InstanceParts) (pointers : ℕ) → AllZip (IsFaultlessProblem domain_text task) texts instances → operation_count task pointers ≤ MAX_OPS → (r : Result MachineParts (List ℕ)) → machine_of_texts_due name domain_text texts pointers r → r ≡ Ok (record { task = task; tables = map (ground_of task) instances; pointers = pointers })
  machine_found texts instances pointers good few _ (ends {line = line} told) = let is = (domain_found (Err line) told).is in absurd (cc)
  machine_found texts instances pointers good few r (goes_on {a = domain} found rest) =
      let known = domain_found (Ok domain) found in
      let same : known.domain ≡ domain = cc in
      let reads : HasDomain domain_text domain.text = subst (λ (d : Domain). HasDomain domain_text d.text) same known.reads in
      let task_is : domain.task ≡ task = subst (λ (d : Domain). d.task ≡ task) same known.task_is in
      over domain reads task_is r rest
    where
      over : (domain : Domain) → HasDomain domain_text domain.text → domain.task ≡ task → (r : Result MachineParts (List ℕ)) → (tables_of_texts_due name domain texts >>= (λ tables. or_tell name machine_fault (IsCountReply domain.task pointers) >>= (λ counted. pure (record { task = domain.task; tables = tables; pointers = pointers })))) r → r ≡ Ok (record { task = task; tables = map (ground_of task) instances; pointers = pointers })
      over domain reads task_is _ (ends {line = line} told) = let is = tables_found domain reads task_is texts instances good (Err line) told in absurd (cc)
      over domain reads task_is _ (goes_on {a = tables} found (ends {line = line} told)) =
          let same : operation_count domain.task pointers ≡ operation_count task pointers = ap (λ (t : TaskParts). operation_count t pointers) task_is in
          absurd (no_line name line machine_fault (IsCountReply domain.task pointers) made.OutOfMemory refl (few_counted domain.task pointers (omega (arith, same, few))) told)
      over domain reads task_is r (goes_on {a = tables} found (goes_on {a = counted} fits made)) =
          let are = tables_found domain reads task_is texts instances good (Ok tables) found in
          let tables_are : tables ≡ map (ground_of task) instances = cc in
          made
          ∙ ap (λ (t : TaskParts). Ok (record { task = t; tables = tables; pointers = pointers })) task_is
          ∙ ap (λ (l : List Ground). Ok (record { task = task; tables = l; pointers = pointers })) tables_are

  -- so no line tells a fault of it
  pub no_fault_told : (texts : List (List ℕ)) (instances : List InstanceParts) (pointers : ℕ) → AllZip (IsFaultlessProblem domain_text task) texts instances → operation_count task pointers ≤ MAX_OPS → (line : List ℕ) → machine_of_texts_due name domain_text texts pointers (Err line) → ⊥
  no_fault_told texts instances pointers good few line told = let is = machine_found texts instances pointers good few (Err line) told in absurd (cc)
