-- The texts of the operations of a machine that is made of files are short.
use Rattle.std.proofs.Common.{◌≡◌, ℕ, ◌≤◌, List, length, Option, Some, Ok, Err, Bool, true, false, nat_lt, if◌then◌else◌, All, refl, sym, ◌∙◌, ap, subst, arith}
use Rattle.std.proofs.lemmas.Bool.Decides.{nat_tests}
use Rattle.std.proofs.lemmas.List.Elements.{All-map}
use Rattle.bfgp_outside.specs.Shelf.{Files}
use Rattle.bfgp_outside.specs.Whole.{whole_of}
use Rattle.bfgp_outside.specs.declared.whole.ReadRefusal.TheVariants.{TooLong}
use Rattle.flag_rules.specs.declared.file.TheConstants.{MAX_FILE_BYTES}
use Rattle.pddl_parser.specs.declared.texts.DomainText.{DomainText}
use Rattle.pddl_task.specs.Types.{type_names, names_of}
use Rattle.pddl_task.specs.Parts.{predicate_of, schema_of, heads_of, TaskOf}
use Rattle.ground_state.specs.declared.parts.TaskParts.{TaskParts}
use Rattle.ground_state.specs.declared.parts.SchemaEntry.{SchemaEntry}
use Rattle.ground_state.specs.declared.parts.PredicateEntry.{PredicateEntry}
use Rattle.program_model.specs.declared.machine.TheConstants.{MAX_POINTERS}
use Rattle.pointer_machine.specs.Machine.{MachineParts}
use Rattle.pointer_machine.specs.Texts.{operation_texts}
use Rattle.command_words.specs.declared.job.Inputs.{Inputs}
use Rattle.input_reading.specs.Steps.{goes_on}
use Rattle.input_reading.specs.Inputs.{machine_due}
use Rattle.input_reading.proofs.Held.{machine_held}
use Rattle.document_length.specs.declared.lengths.TheConstants.{MAX_TEXT_LENGTH}
use Rattle.written_length.proofs.Names.{HasShortNames, names_short}
use Rattle.written_length.proofs.Texts.{HasShortEntries, texts_short}

-- a file that was read whole has no more bytes than the limit
held_short : (held : Option (List ℕ)) (file bytes : List ℕ) (limit : ℕ) → held ≡ Some file → Ok bytes ≡ whole_of held limit → length file ≤ limit
held_short held file bytes limit is read = by_test (nat_lt limit (length file)) refl (read ∙ ap (λ (h : Option (List ℕ)). whole_of h limit) is)
  where
    by_test : (long : Bool) → nat_lt limit (length file) ≡ long → Ok bytes ≡ (if long then Err TooLong else Ok file) → length file ≤ limit
    by_test true is cut = absurd (cc)
    by_test false is all = grind (arith, nat_tests)

-- the bytes of the domain's file are few
domain_short : (files : Files) (inputs : Inputs) (pointers : ℕ) (machine : MachineParts) (file : List ℕ) → files inputs.domain ≡ Some file → machine_due files inputs pointers (Ok machine) → length file ≤ MAX_FILE_BYTES
domain_short files inputs pointers machine file held (goes_on {a = bytes} read rest) = held_short (files inputs.domain) file bytes MAX_FILE_BYTES held read

-- the entries of a task have the names of the domain
entries_short : (domain : DomainText) (task : TaskParts) → TaskOf domain task → HasShortNames MAX_FILE_BYTES domain → HasShortEntries task
entries_short domain task is short =
    subst HasShortEntries (sym is.made) (record {
      schemas = All-map (λ (entry : SchemaEntry). length entry.name ≤ MAX_FILE_BYTES) (schema_of (type_names domain.types) (heads_of domain.predicates) (names_of domain.constants)) domain.actions short.actions;
      predicates = All-map (λ (entry : PredicateEntry). length entry.name ≤ MAX_FILE_BYTES) predicate_of domain.predicates short.predicates;
    })

pub operations_short : (files : Files) (inputs : Inputs) (pointers : ℕ) (machine : MachineParts) → pointers ≤ MAX_POINTERS → machine_due files inputs pointers (Ok machine)
    → All (λ text. length text ≤ MAX_TEXT_LENGTH) (operation_texts machine.task machine.pointers)
operations_short files inputs pointers machine few made =
    let held = machine_held files inputs pointers machine made in
    let posed = held.posed in
    let bytes = domain_short files inputs pointers machine posed.domain_bytes posed.domain_held made in
    let named = entries_short posed.domain posed.task posed.task_is (names_short MAX_FILE_BYTES posed.domain_bytes posed.domain bytes posed.domain_reads) in
    subst (λ (m : MachineParts). All (λ text. length text ≤ MAX_TEXT_LENGTH) (operation_texts m.task m.pointers)) (sym held.is)
    (texts_short posed.task pointers held.is_task named few)
