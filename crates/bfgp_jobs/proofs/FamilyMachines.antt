-- The machine over the texts of a family is the one over the family's instances, and no fault is told of them.
use Rattle.std.proofs.Common.{◌≡◌, ℕ, zero, suc, ◌<◌, ◌≤◌, List, [], ◌∷◌, length, map, slice_get, All, Some, Result, Ok, Err, refl, sym, ◌∙◌, ap, subst, arith}
use Rattle.std.specs.List.{AllZip}
use Rattle.std.proofs.lemmas.List.{length-map}
use Rattle.std.proofs.lemmas.List.Elements.{All-head, All-tail, All-map, All-weaker}
use Rattle.flag_rules.specs.declared.file.TheConstants.{MAX_FILE_BYTES}
use Rattle.pddl_parser.specs.declared.texts.DomainText.{DomainText}
use Rattle.pddl_parser.specs.Replies.{HasDomain, IsDomainText}
use Rattle.pddl_printer.specs.Printing.{printed_domain, printed_problem}
use Rattle.pddl_task.proofs.InstanceFits.{instance-fits}
use Rattle.pddl_task.proofs.TaskFits.{task-fits}
use Rattle.ground_state.specs.declared.parts.InstanceParts.{InstanceParts}
use Rattle.ground_state.specs.declared.parts.TheConstants.{MAX_ATOMS}
use Rattle.ground_state.specs.Task.{IsTask}
use Rattle.ground_state.specs.Instance.{IsInstance}
use Rattle.ground_state.specs.Ground.{Ground, atoms_needed}
use Rattle.program_model.specs.declared.alphabet.TheConstants.{MAX_OPS}
use Rattle.program_model.specs.declared.machine.TheConstants.{MAX_INSTANCES, MAX_POINTERS}
use Rattle.program_text.specs.Names.{AreNames}
use Rattle.pointer_machine.specs.Machine.{MachineParts}
use Rattle.pointer_machine.specs.Operations.{operation_count}
use Rattle.family_gen.specs.declared.kinds.Family.{Family}
use Rattle.family_gen.specs.declared.kinds.Family.TheVariants.{Lights, Corridor}
use Rattle.family_gen.specs.declared.texts.FamilyTexts.{FamilyTexts}
use Rattle.family_gen.specs.Domains.{domain_of}
use Rattle.family_gen.specs.Problems.{problem_of}
use Rattle.family_gen.specs.Families.{family_name, family_texts, pointers_of, sizes_of}
use Rattle.family_gen.specs.Parts.{family_task, family_instance, family_instances}
use Rattle.family_gen.proofs.Lengths.{domain_fits_into_file, problem_fits_into_file}
use Rattle.family_gen.proofs.Numbers.{some_sizes, few_sizes, sizes_within, few_atoms}
use Rattle.family_gen.proofs.Reading.{domain_refused, problem_refused, task_of_text, task_refused, instance_of_text, instance_refused}
use Rattle.input_reading.specs.declared.halt.Halt.{Halt}
use Rattle.input_reading.specs.Steps.{Gives, goes_on}
use Rattle.input_reading.specs.Inputs.{tables_of_texts_due, machine_of_texts_due}
use Rattle.input_reading.proofs.FaultlessTexts.{IsFaultlessDomain, IsFaultlessProblem, machine_found, no_fault_told}
use Rattle.input_reading.proofs.OperationNames.{operations-named}
use Rattle.bfgp_jobs.specs.Headline.{posed_parts, family_operations}

-- the text of a family's domain, and that of its instance of a size
abbrev domain_text : Family → List ℕ
domain_text family = printed_domain (domain_of family)

abbrev problem_text : Family → ℕ → List ℕ
problem_text family size = printed_problem (problem_of family size)

-- ---- how many there are
-- how many operations there are over the pointers of a family
pub family_operations_few : (family : Family) → operation_count (family_task family) (pointers_of family) ≤ MAX_OPS
family_operations_few Lights = let count : operation_count (family_task Lights) (pointers_of Lights) ≡ 5 = refl in omega (arith, count)
family_operations_few Corridor = let count : operation_count (family_task Corridor) (pointers_of Corridor) ≡ 20 = refl in omega (arith, count)

pub family_pointers_few : (family : Family) → (0 < pointers_of family) × (pointers_of family ≤ MAX_POINTERS)
family_pointers_few Lights = (omega arith, omega arith)
family_pointers_few Corridor = (omega arith, omega arith)

pub family_instances_few : (family : Family) (number : ℕ) → (0 < length (family_instances family number)) × (length (family_instances family number) ≤ MAX_INSTANCES)
family_instances_few family number =
    let many = length-map (sizes_of family number) (family_instance family) in
    let some = some_sizes family number in
    let few = few_sizes family number in
    (omega (arith, many, some), omega (arith, many, few))

pub family_problems_few : (family : Family) (number : ℕ) → (0 < length (family_texts family number).problems) × (length (family_texts family number).problems ≤ MAX_INSTANCES)
family_problems_few family number =
    let many = length-map (sizes_of family number) (problem_text family) in
    let some = some_sizes family number in
    let few = few_sizes family number in
    (omega (arith, many, some), omega (arith, many, few))

-- ---- the texts are short
pub family_domain_short : (family : Family) → length (domain_text family) ≤ MAX_FILE_BYTES
family_domain_short family = domain_fits_into_file family

pub family_problems_short : (family : Family) (number : ℕ) → All (λ text. length text ≤ MAX_FILE_BYTES) (family_texts family number).problems
family_problems_short family number =
    All-map (λ text. length text ≤ MAX_FILE_BYTES) (problem_text family) (sizes_of family number)
    (All-weaker (λ size. (1 < size) × (size ≤ 256)) (λ size. length (problem_text family size) ≤ MAX_FILE_BYTES) (λ size within. problem_fits_into_file family size within.1) (sizes_of family number) (sizes_within family number))

-- ---- nothing is refused of them
faultless_domain : (family : Family) → IsFaultlessDomain (domain_text family) (family_task family)
faultless_domain family = record {
  read = domain_refused family;
  numbered = λ domain has refusal told. task_refused family domain refusal has told;
  task_is = λ domain has parts numbered. numbered.made ∙ sym (task_of_text family domain has).made;
}

module _ (family : Family) where
  -- a size that an instance of a family has
  record IsSize (size : ℕ) : Type 0 where
    some : 0 < size
    few : size ≤ 256
    small : atoms_needed (family_task family) (family_instance family size) ≤ MAX_ATOMS

  are_sizes : (number : ℕ) → All IsSize (sizes_of family number)
  are_sizes number k d within =
      let bounds = sizes_within family number k d within in
      record { some = omega (arith, bounds.0); few = bounds.1; small = few_atoms family number k d within }

  faultless_problem : (size : ℕ) → IsSize size → IsFaultlessProblem (domain_text family) (family_task family) (problem_text family size) (family_instance family size)
  faultless_problem size is = record {
    read = λ refusal told. problem_refused family size refusal is.few told;
    numbered = λ domain has problem reads refusal told. instance_refused family size domain problem refusal is.some is.few has reads told;
    instance_is = λ domain has problem reads parts numbered. numbered.made ∙ sym (instance_of_text family size domain problem is.some is.few has reads).made;
    few_atoms = is.small;
  }

  faultless_problems : (sizes : List ℕ) → All IsSize sizes → AllZip (IsFaultlessProblem (domain_text family) (family_task family)) (map (problem_text family) sizes) (map (family_instance family) sizes)
  faultless_problems [] are = tt
  faultless_problems (size ∷ sizes) are = (faultless_problem size (All-head IsSize size sizes are), faultless_problems sizes (All-tail IsSize size sizes are))

  -- ---- the machine over them
  -- what they come to
  abbrev pub FamilyDue : ℕ → Result MachineParts (List ℕ) → Type 0
  FamilyDue number = machine_of_texts_due (family_name family) (family_texts family number).domain (family_texts family number).problems (pointers_of family)

  -- the machine that is made is the one over the family's instances
  pub family_machine_is : (number : ℕ) (machine : MachineParts) → FamilyDue number (Ok machine) → machine ≡ posed_parts (family_task family) (family_instances family number) (pointers_of family)
  family_machine_is number machine made =
      let found = machine_found (family_name family) (domain_text family) (family_task family) (faultless_domain family) (map (problem_text family) (sizes_of family number)) (family_instances family number) (pointers_of family) (faultless_problems (sizes_of family number) (are_sizes number)) (family_operations_few family) (Ok machine) made in cc

  -- and there is no fault to tell
  pub family_faultless : (number : ℕ) (line : List ℕ) → FamilyDue number (Err line) → ⊥
  family_faultless number line told =
      no_fault_told (family_name family) (domain_text family) (family_task family) (faultless_domain family) (map (problem_text family) (sizes_of family number)) (family_instances family number) (pointers_of family) (faultless_problems (sizes_of family number) (are_sizes number)) (family_operations_few family) line told

  -- the domain that was read, by which the family's task and its instances are valid
  module _ (domain : DomainText) (has : HasDomain (domain_text family) domain) where
    is_text : IsDomainText domain
    is_text = (domain_text family, domain_fits_into_file family, has)

    is_task : IsTask (family_task family)
    is_task = task-fits domain (family_task family) is_text (task_of_text family domain has)

    instances_fit : (parts : _) (sizes : List ℕ) (tables : List Ground) → All IsSize sizes → tables_of_texts_due (family_name family) parts (map (problem_text family) sizes) (Ok tables) → (t : ℕ) (instance : InstanceParts) → slice_get (map (family_instance family) sizes) t ≡ Some instance → IsInstance (family_task family) instance
    instances_fit parts [] tables are made t instance here = absurd (cc)
    instances_fit parts (size ∷ sizes) tables are (goes_on {a = table} (goes_on {a = problem} reads rest) others) zero instance here =
        let is : family_instance family size ≡ instance = cc in
        let first = All-head IsSize size sizes are in
        let fits = instance-fits domain problem (family_task family) (family_instance family size) is_text (task_of_text family domain has) (problem_text family size, problem_fits_into_file family size first.few, reads) (instance_of_text family size domain problem first.some first.few has reads) in
        subst (IsInstance (family_task family)) is fits
    instances_fit parts (size ∷ sizes) tables are (goes_on {a = table} first (goes_on {a = others} others_are made)) (suc t) instance here =
        instances_fit parts sizes others (All-tail IsSize size sizes are) others_are t instance here

  -- where the machine is made, the instances are valid, and the texts of the operations are names
  pub record FamilyHolds (number : ℕ) : Type 0 where
    pub fit : (t : ℕ) (instance : InstanceParts) → slice_get (family_instances family number) t ≡ Some instance → IsInstance (family_task family) instance
    pub named : AreNames (family_operations family)

  pub family_holds : (number : ℕ) (machine : MachineParts) → FamilyDue number (Ok machine) → FamilyHolds number
  family_holds number machine (goes_on {a = parts} (goes_on {a = text} has (goes_on {a = task} task_is domain_is)) (goes_on {a = tables} tables_are rest)) =
      let few = family_pointers_few family in
      record {
        fit = instances_fit text has parts (sizes_of family number) tables (are_sizes number) tables_are;
        named = operations-named (family_task family) (pointers_of family) (is_task text has) few.0 few.1 (family_operations_few family);
      }

-- ---- the texts that were made, by slices of them
pub domain_slice_short : (family : Family) (number : ℕ) (texts : FamilyTexts) (slice : List ℕ) → texts ≡ family_texts family number → slice ≡ texts.domain → length slice ≤ MAX_FILE_BYTES
domain_slice_short family number texts slice is same =
    subst (λ (l : List ℕ). length l ≤ MAX_FILE_BYTES) (sym (same ∙ ap (λ (t : FamilyTexts). t.domain) is)) (family_domain_short family)

-- texts of a family are short, and neither too few nor too many
abbrev pub AreFamilyProblems : List (List ℕ) → Type 0
AreFamilyProblems texts = All (λ text. length text ≤ MAX_FILE_BYTES) texts × (0 < length texts) × (length texts ≤ MAX_INSTANCES)

pub problems_slice : (family : Family) (number : ℕ) (texts : FamilyTexts) (slice : List (List ℕ)) → texts ≡ family_texts family number → slice ≡ texts.problems → AreFamilyProblems slice
problems_slice family number texts slice is same =
    let few = family_problems_few family number in
    subst AreFamilyProblems (sym (same ∙ ap (λ (t : FamilyTexts). t.problems) is)) (family_problems_short family number, few.0, few.1)

pub pointers_few : (family : Family) (number : ℕ) (texts : FamilyTexts) → texts ≡ family_texts family number → (0 < texts.pointers) × (texts.pointers ≤ MAX_POINTERS)
pointers_few family number texts is =
    subst (λ (t : FamilyTexts). (0 < t.pointers) × (t.pointers ≤ MAX_POINTERS)) (sym is) (family_pointers_few family)

-- what they come to
pub due_of_slices : (family : Family) (number : ℕ) (texts : FamilyTexts) (name domain : List ℕ) (problems : List (List ℕ)) (r : Result MachineParts Halt) → texts ≡ family_texts family number → name ≡ family_name family → domain ≡ texts.domain → problems ≡ texts.problems
    → Gives (machine_of_texts_due name domain problems texts.pointers) r → Gives (FamilyDue family number) r
due_of_slices family number texts name domain problems r is name_is domain_is problems_are here =
    let at_name = subst (λ (n : List ℕ). Gives (machine_of_texts_due n domain problems texts.pointers) r) name_is here in
    let at_domain = subst (λ (d : List ℕ). Gives (machine_of_texts_due (family_name family) d problems texts.pointers) r) domain_is at_name in
    let at_problems = subst (λ (p : List (List ℕ)). Gives (machine_of_texts_due (family_name family) texts.domain p texts.pointers) r) problems_are at_domain in
    subst (λ (t : FamilyTexts). Gives (machine_of_texts_due (family_name family) t.domain t.problems t.pointers) r) is at_problems
