-- Reading the input files comes to one result at most.
use Rattle.std.proofs.Common.{◌≡◌, ℕ, ◌<◌, ◌≤◌, List, [], ◌∷◌, Option, Some, Result, Ok, Err, refl, sym, ◌∙◌, ap, subst, arith}
use Rattle.flag_rules.specs.declared.file.TheConstants.{MAX_FILE_BYTES}
use Rattle.bfgp_outside.specs.Shelf.{Files}
use Rattle.pddl_parser.specs.declared.refusal.ParseRefusal.{ParseRefusal}
use Rattle.pddl_parser.specs.declared.refusal.ParseRefusal.TheVariants as parse
use Rattle.pddl_parser.specs.declared.texts.DomainText.{DomainText}
use Rattle.pddl_parser.specs.declared.texts.ProblemText.{ProblemText}
use Rattle.pddl_parser.specs.Replies as parser
use Rattle.pddl_parser.specs.Replies.{HasDomainReply, HasProblemReply, IsDomainReply, IsProblemReply}
use Rattle.pddl_parser.proofs.Wholes.{one-domain-reply, one-problem-reply}
use Rattle.pddl_task.specs.declared.refusal.TaskRefusal.{TaskRefusal}
use Rattle.pddl_task.specs.declared.refusal.TaskRefusal.TheVariants as refusals
use Rattle.pddl_task.specs.Replies as tasks
use Rattle.pddl_task.specs.Replies.{HasTaskReply, HasInstanceReply, IsTaskReply, IsInstanceReply}
use Rattle.pddl_task.proofs.OneAnswer.{one-task, one-instance}
use Rattle.ground_state.specs.declared.parts.TaskParts.{TaskParts}
use Rattle.ground_state.specs.declared.parts.InstanceParts.{InstanceParts}
use Rattle.ground_state.specs.declared.refusal.GroundRefusal.{GroundRefusal}
use Rattle.ground_state.specs.declared.refusal.GroundRefusal.TheVariants as grounded
use Rattle.ground_state.specs.Ground.{Ground, atoms_needed}
use Rattle.ground_state.specs.declared.parts.TheConstants.{MAX_ATOMS}
use Rattle.program_model.specs.declared.alphabet.TheConstants.{MAX_OPS}
use Rattle.program_model.specs.declared.machine.TheConstants.{MAX_POINTERS}
use Rattle.program_text.specs.declared.refusal.ProgramRefusal.{ProgramRefusal}
use Rattle.program_text.specs.declared.refusal.ProgramRefusal.TheVariants as programs
use Rattle.program_text.specs.Names.{AreNames}
use Rattle.program_text.specs.Lines.{instruction_lines}
use Rattle.program_text.specs.Reading.{Reads}
use Rattle.program_text.proofs.Apart.{says_one}
use Rattle.pointer_machine.specs.declared.refusal.MachineRefusal.{MachineRefusal}
use Rattle.pointer_machine.specs.declared.refusal.MachineRefusal.TheVariants as made
use Rattle.program_model.specs.Program.{Program}
use Rattle.pointer_machine.specs.Machine.{MachineParts}
use Rattle.pointer_machine.specs.Operations.{operation_count}
use Rattle.pointer_machine.specs.Texts.{operation_texts}
use Rattle.input_reading.specs.declared.domain_reading.Domain.{Domain}
use Rattle.input_reading.specs.declared.fault.Fault.{Fault}
use Rattle.input_reading.specs.declared.fault.Fault.TheVariants as faults
use Rattle.command_words.specs.declared.job.Inputs.{Inputs}
use Rattle.input_reading.specs.Faults.{reading_fault, parsing_fault, task_fault, ground_fault, machine_fault, program_fault}
use Rattle.input_reading.specs.Grounding.{IsGroundReply, IsCountReply}
use Rattle.input_reading.specs.Inputs.{IsWhole, file_due, domain_due, table_due, tables_due, machine_due, tables_of_texts_due, machine_of_texts_due}
use Rattle.input_reading.proofs.Held.{machine_held}
use Rattle.input_reading.proofs.OperationNames.{operations-named}
use Rattle.input_reading.proofs.Decided.{IsDecided, IsDefinite, pure_decided, then_decided, tell_decided}

-- each call of a job is definite
whole_definite : (files : Files) (limit : ℕ) (name : List ℕ) → IsDefinite reading_fault (IsWhole files limit name)
whole_definite files limit name = record {
  value = λ a b p q. let same = p ∙ sym q in cc;
  fault = λ d e x y dx ey p q. let same = p ∙ sym q in let is : d ≡ e = cc in let there = ap reading_fault is in cc;
  apart = λ a e x is p q. let same = p ∙ sym q in absurd (cc);
}

-- a call with one answer at most, up to want of memory
one_definite : {A E : Type 0} (fault_of : E → Option Fault) (Has Allowed : Result A E → Type 0) → ((r s : Result A E) → Has r → Has s → r ≡ s) → ((a : A) → Allowed (Ok a) → Has (Ok a)) → ((e : E) (x : Fault) → fault_of e ≡ Some x → Allowed (Err e) → Has (Err e)) → IsDefinite fault_of Allowed
one_definite {A} {E} fault_of Has Allowed one value refusal = record {
  value = λ a b p q. let same = one (Ok a) (Ok b) (value a p) (value b q) in cc;
  fault = λ d e x y dx ey p q. let same = one (Err d) (Err e) (refusal d x dx p) (refusal e y ey q) in let is : d ≡ e = cc in let there = ap fault_of is in cc;
  apart = λ a e x ex p q. let same = one (Ok a) (Err e) (value a p) (refusal e x ex q) in absurd (cc);
}

parsed : {A : Type 0} (Has : Result A ParseRefusal → Type 0) (e : ParseRefusal) (x : Fault) → parsing_fault e ≡ Some x → parser.OrMemory Has (Err e) → Has (Err e)
parsed Has parse.OutOfMemory x e p = absurd (cc)
parsed Has (parse.Byte at) x e p = p
parsed Has (parse.Unclosed at) x e p = p
parsed Has (parse.Unopened at) x e p = p
parsed Has (parse.TooDeep at) x e p = p
parsed Has (parse.Shape at) x e p = p
parsed Has (parse.Unsupported at) x e p = p

tasked : {A : Type 0} (Has : Result A TaskRefusal → Type 0) (e : TaskRefusal) (x : Fault) → task_fault e ≡ Some x → tasks.OrMemory Has (Err e) → Has (Err e)
tasked Has refusals.OutOfMemory x e p = absurd (cc)
tasked Has (refusals.Unknown at) x e p = p
tasked Has (refusals.Twice at) x e p = p
tasked Has (refusals.Arity at) x e p = p
tasked Has (refusals.TypeCycle at) x e p = p
tasked Has (refusals.OtherDomain at) x e p = p
tasked Has refusals.NoObject x e p = p
tasked Has (refusals.Limit which count) x e p = p

domain_definite : (bytes : List ℕ) → IsDefinite parsing_fault (IsDomainReply bytes)
domain_definite bytes = one_definite parsing_fault (HasDomainReply bytes) (IsDomainReply bytes) (one-domain-reply bytes) (λ a p. p) (parsed (HasDomainReply bytes))

problem_definite : (bytes : List ℕ) → IsDefinite parsing_fault (IsProblemReply bytes)
problem_definite bytes = one_definite parsing_fault (HasProblemReply bytes) (IsProblemReply bytes) (one-problem-reply bytes) (λ a p. p) (parsed (HasProblemReply bytes))

task_definite : (text : DomainText) → IsDefinite task_fault (IsTaskReply text)
task_definite text = one_definite task_fault (HasTaskReply text) (IsTaskReply text) (one-task text) (λ a p. p) (tasked (HasTaskReply text))

instance_definite : (domain : DomainText) (text : ProblemText) → IsDefinite task_fault (IsInstanceReply domain text)
instance_definite domain text = one_definite task_fault (HasInstanceReply domain text) (IsInstanceReply domain text) (one-instance domain text) (λ a p. p) (tasked (HasInstanceReply domain text))

ground_definite : (task : TaskParts) (instance : InstanceParts) → IsDefinite ground_fault (IsGroundReply task instance)
ground_definite task instance = record { value = λ a b p q. p.0 ∙ sym q.0; fault = fault_is; apart = apart }
  where
    atoms : (e : GroundRefusal) (x : Fault) → ground_fault e ≡ Some x → IsGroundReply task instance (Err e) → (x ≡ faults.Atoms (atoms_needed task instance)) × (MAX_ATOMS < atoms_needed task instance)
    atoms (grounded.TooManyAtoms count) x is p = (let count_is = p.0 in cc, omega (arith, p.0, p.1))
    atoms grounded.OutOfMemory x is p = absurd (cc)

    fault_is : (d e : GroundRefusal) (x y : Fault) → ground_fault d ≡ Some x → ground_fault e ≡ Some y → IsGroundReply task instance (Err d) → IsGroundReply task instance (Err e) → x ≡ y
    fault_is d e x y dx ey p q = (atoms d x dx p).0 ∙ sym (atoms e y ey q).0

    apart : (a : Ground) (e : GroundRefusal) (x : Fault) → ground_fault e ≡ Some x → IsGroundReply task instance (Ok a) → IsGroundReply task instance (Err e) → ⊥
    apart a e x is p q = let many = (atoms e x is q).1 in omega (arith, p.1, many)

count_definite : (task : TaskParts) (pointers : ℕ) → IsDefinite machine_fault (IsCountReply task pointers)
count_definite task pointers = record { value = λ a b p q. refl; fault = fault_is; apart = apart }
  where
    counted : (e : MachineRefusal) (x : Fault) → machine_fault e ≡ Some x → IsCountReply task pointers (Err e) → (x ≡ faults.Operations (operation_count task pointers)) × (MAX_OPS < operation_count task pointers)
    counted (made.TooManyOps count) x is p = (let count_is = p.0 in cc, omega (arith, p.0, p.1))
    counted made.OutOfMemory x is p = absurd (cc)

    fault_is : (d e : MachineRefusal) (x y : Fault) → machine_fault d ≡ Some x → machine_fault e ≡ Some y → IsCountReply task pointers (Err d) → IsCountReply task pointers (Err e) → x ≡ y
    fault_is d e x y dx ey p q = (counted d x dx p).0 ∙ sym (counted e y ey q).0

    apart : (a : Unit {0}) (e : MachineRefusal) (x : Fault) → machine_fault e ≡ Some x → IsCountReply task pointers (Ok a) → IsCountReply task pointers (Err e) → ⊥
    apart a e x is p q = let many = (counted e x is q).1 in omega (arith, p, many)

-- each step of a job is decided
pub file_decided : (files : Files) (limit : ℕ) (name : List ℕ) → IsDecided (file_due files limit name)
file_decided files limit name = tell_decided name (whole_definite files limit name)

domain_decided : (name bytes : List ℕ) → IsDecided (domain_due name bytes)
domain_decided name bytes =
    then_decided (tell_decided name (domain_definite bytes)) (λ text has.
    then_decided (tell_decided name (task_definite text)) (λ task is.
    pure_decided (record { text = text; task = task })))

table_decided : (domain : Domain) (name bytes : List ℕ) → IsDecided (table_due name domain bytes)
table_decided domain name bytes =
    then_decided (tell_decided name (problem_definite bytes)) (λ text has.
    then_decided (tell_decided name (instance_definite domain.text text)) (λ instance is.
    tell_decided name (ground_definite domain.task instance)))

module _ (files : Files) (domain : Domain) where
  tables_decided : (names : List (List ℕ)) → IsDecided (tables_due files domain names)
  tables_decided [] = pure_decided []
  tables_decided (name ∷ names) =
      then_decided (file_decided files MAX_FILE_BYTES name) (λ bytes read.
      then_decided (table_decided domain name bytes) (λ table made.
      then_decided (tables_decided names) (λ tables others.
      pure_decided (table ∷ tables))))

-- what a program text says, in the texts of a machine's operations
no_memory : (e : ProgramRefusal) (x : Fault) → program_fault e ≡ Some x → (same : ◌≡◌ {A = Result Program ProgramRefusal} (Err e) (Err programs.OutOfMemory)) → ⊥
no_memory e x is same = let memory : e ≡ programs.OutOfMemory = cc in let none = ap program_fault memory in absurd (cc)

pub program_definite : (texts : List (List ℕ)) (bytes : List ℕ) → AreNames texts → IsDefinite program_fault (Reads texts bytes)
program_definite texts bytes named = record {
  value = λ a b p q. let same = says_one texts (instruction_lines bytes) (Ok a) (Ok b) named p q (λ is. absurd (cc)) (λ is. absurd (cc)) in cc;
  fault = λ d e x y dx ey p q. let same = says_one texts (instruction_lines bytes) (Err d) (Err e) named p q (no_memory d x dx) (no_memory e y ey) in let is : d ≡ e = cc in let there = ap program_fault is in cc;
  apart = λ a e x ex p q. let same = says_one texts (instruction_lines bytes) (Ok a) (Err e) named p q (λ is. absurd (cc)) (no_memory e x ex) in absurd (cc);
}

pub machine_decided : (files : Files) (inputs : Inputs) (pointers : ℕ) → IsDecided (machine_due files inputs pointers)
machine_decided files inputs pointers =
    then_decided (file_decided files MAX_FILE_BYTES inputs.domain) (λ bytes read.
    then_decided (domain_decided inputs.domain bytes) (λ domain numbered.
    then_decided (tables_decided files domain inputs.instances) (λ tables made.
    then_decided (tell_decided inputs.domain (count_definite domain.task pointers)) (λ counted few.
    pure_decided (record { task = domain.task; tables = tables; pointers = pointers })))))

tables_of_texts_decided : (name : List ℕ) (domain : Domain) (texts : List (List ℕ)) → IsDecided (tables_of_texts_due name domain texts)
tables_of_texts_decided name domain [] = pure_decided []
tables_of_texts_decided name domain (text ∷ texts) =
    then_decided (table_decided domain name text) (λ table made.
    then_decided (tables_of_texts_decided name domain texts) (λ tables others.
    pure_decided (table ∷ tables)))

pub machine_of_texts_decided : (name domain_text : List ℕ) (problems : List (List ℕ)) (pointers : ℕ) → IsDecided (machine_of_texts_due name domain_text problems pointers)
machine_of_texts_decided name domain_text problems pointers =
    then_decided (domain_decided name domain_text) (λ domain numbered.
    then_decided (tables_of_texts_decided name domain problems) (λ tables made.
    then_decided (tell_decided name (count_definite domain.task pointers)) (λ counted few.
    pure_decided (record { task = domain.task; tables = tables; pointers = pointers }))))

-- the texts of the operations of a machine that was made are names
pub machine_named : (files : Files) (inputs : Inputs) (pointers : ℕ) → 0 < pointers → pointers ≤ MAX_POINTERS → (machine : MachineParts) → machine_due files inputs pointers (Ok machine) → AreNames (operation_texts machine.task machine.pointers)
machine_named files inputs pointers some few machine made =
    let held = machine_held files inputs pointers machine made in
    subst (λ (m : MachineParts). AreNames (operation_texts m.task m.pointers)) (sym held.is) (operations-named held.posed.task pointers held.is_task some few held.few)
