-- The texts of a family are read, and made into its task and its instances, unless memory is wanting.
use Rattle.std.proofs.Common.{◌≡◌, ℕ, ◌<◌, ◌≤◌, ◌==◌, nat_lt, Bool, true, false, List, ◌++◌, map, length, Some, None, Result, Ok, Err, if◌then◌else◌, refl, sym, ap, ◌∙◌, arith}
use Rattle.std.specs.List.{range_with_len}
use Rattle.std.proofs.lemmas.Bool.Decides.{nat_tests}
use Rattle.std.proofs.lemmas.List.{length-map}
use Rattle.std.proofs.lemmas.List.FromFn.{length-map-range_with_len}
use Rattle.ground_state.specs.declared.parts.TheConstants.{MAX_OBJECTS}
use Rattle.pddl_parser.specs.declared.refusal.ParseRefusal.{ParseRefusal}
use Rattle.pddl_parser.specs.declared.refusal.ParseRefusal.TheVariants as parsing
use Rattle.pddl_parser.specs.declared.texts.DomainText.{DomainText}
use Rattle.pddl_parser.specs.declared.texts.ProblemText.{ProblemText}
use Rattle.pddl_parser.specs.Replies.{HasDomain, HasProblem, IsDomainReply, IsProblemReply}
use Rattle.pddl_printer.specs.Printing.{printed_domain, printed_problem}
use Rattle.pddl_printer.specs.Alike.{AlikeDomain, AlikeProblem}
use Rattle.pddl_printer.proofs.ReadBack.{domain-read_back, problem-read_back}
use Rattle.pddl_task.specs.declared.refusal.TaskRefusal.{TaskRefusal}
use Rattle.pddl_task.specs.declared.refusal.TaskRefusal.TheVariants.{Unknown, Twice, Arity, TypeCycle, OtherDomain, NoObject, Limit, OutOfMemory}
use Rattle.pddl_task.specs.declared.refusal.Which.TheVariants.{Objects}
use Rattle.pddl_task.specs.Faults.{domain_limit, objects_limit, problem_limit}
use Rattle.pddl_task.specs.Parts.{TaskOf, InstanceOf}
use Rattle.pddl_task.specs.Replies.{HasTaskReply, HasInstanceReply, OrMemory, IsTaskReply, IsInstanceReply}
use Rattle.pddl_task.proofs.OneAnswer.{one-task, one-instance}
use Rattle.family_gen.specs.declared.kinds.Family.{Family}
use Rattle.family_gen.specs.declared.kinds.Family.TheVariants.{Lights, Corridor}
use Rattle.family_gen.specs.Domains.{untyped, domain_of}
use Rattle.family_gen.specs.Problems.{lamp, cell, problem_of}
use Rattle.family_gen.specs.Parts.{family_task, family_instance}
use Rattle.family_gen.proofs.Faultless.{faultless_domain, faultless_problem, alike_fit_domain, alike_fit_problem}
use Rattle.family_gen.proofs.Fitting.{domain_fits, problem_fits}
use Rattle.family_gen.proofs.SameParts.{same_task, same_domain_limit, same_instance, same_problem_limit}
use Rattle.family_gen.proofs.Spelling.{domain_spelled, problem_spelled}

-- ---- bytes

pub domain_refused : (family : Family) (refusal : ParseRefusal) → IsDomainReply (printed_domain (domain_of family)) (Err refusal) → refusal ≡ parsing.OutOfMemory
domain_refused family refusal reply = domain-read_back (domain_of family) (domain_spelled family) (Err refusal) reply

pub problem_refused : (family : Family) (size : ℕ) (refusal : ParseRefusal) → size ≤ 256 → IsProblemReply (printed_problem (problem_of family size)) (Err refusal) → refusal ≡ parsing.OutOfMemory
problem_refused family size refusal few reply = problem-read_back (problem_of family size) (problem_spelled family size few) (Err refusal) reply

-- what is read says the same
domain_alike : (family : Family) (read : DomainText) → HasDomain (printed_domain (domain_of family)) read → AlikeDomain (domain_of family) read
domain_alike family read has = domain-read_back (domain_of family) (domain_spelled family) (Ok read) has

problem_alike : (family : Family) (size : ℕ) (read : ProblemText) → size ≤ 256 → HasProblem (printed_problem (problem_of family size)) read → AlikeProblem (problem_of family size) read
problem_alike family size read few has = problem-read_back (problem_of family size) (problem_spelled family size few) (Ok read) has

-- ---- limits

domain_within : (family : Family) → domain_limit (domain_of family) ≡ None
domain_within Lights = refl
domain_within Corridor = refl

objects_within : (count : ℕ) → 0 < count → count ≤ 256 → objects_limit count ≡ None
objects_within count some few = by (count == 0) refl (nat_lt MAX_OBJECTS count) refl
  where
    by : (none : Bool) → (count == 0) ≡ none → (many : Bool) → nat_lt MAX_OBJECTS count ≡ many → (if none then Some NoObject else (if many then Some (Limit Objects count) else None)) ≡ None
    by true is many are = let zero : count ≡ 0 = grind (arith, nat_tests) in absurd (omega (arith, some, zero))
    by false is true are = let more : MAX_OBJECTS < count = grind (arith, nat_tests) in absurd (omega (arith, few, more))
    by false is false are = refl

length_untyped : (object : ℕ → List ℕ) (size : ℕ) → length (map untyped (map object (range_with_len 0 size))) ≡ size
length_untyped object size = length-map (map object (range_with_len 0 size)) untyped ∙ length-map-range_with_len object 0 size

-- so many objects
pub length_objects : (family : Family) (size : ℕ) → length ((domain_of family).constants ++ (problem_of family size).objects) ≡ size
length_objects Lights size = length_untyped lamp size
length_objects Corridor size = length_untyped cell size

problem_within : (family : Family) (size : ℕ) → 0 < size → size ≤ 256 → problem_limit (domain_of family) (problem_of family size) ≡ None
problem_within family size some few = ap objects_limit (length_objects family size) ∙ objects_within size some few

-- ---- parts

pub task_of_text : (family : Family) (domain : DomainText) → HasDomain (printed_domain (domain_of family)) domain → TaskOf domain (family_task family)
task_of_text family domain has =
    let alike = domain_alike family domain has in
    let fits = domain_fits family in
    record {
      faultless = faultless_domain domain (alike_fit_domain (domain_of family) domain alike fits);
      within = sym (same_domain_limit (domain_of family) domain alike fits.types) ∙ domain_within family;
      made = same_task (domain_of family) domain alike fits.types;
    }

pub instance_of_text : (family : Family) (size : ℕ) (domain : DomainText) (problem : ProblemText) → 0 < size → size ≤ 256
    → HasDomain (printed_domain (domain_of family)) domain → HasProblem (printed_problem (problem_of family size)) problem → InstanceOf domain problem (family_instance family size)
instance_of_text family size domain problem some few has_domain has_problem =
    let alike = domain_alike family domain has_domain in
    let like = problem_alike family size problem few has_problem in
    let fits = domain_fits family in
    record {
      faultless = faultless_problem domain problem (alike_fit_domain (domain_of family) domain alike fits)
          (alike_fit_problem (domain_of family) domain (problem_of family size) problem alike like (problem_fits family size some few));
      within = sym (same_problem_limit (domain_of family) domain alike fits.types (problem_of family size) problem like) ∙ problem_within family size some few;
      made = same_instance (domain_of family) domain alike fits.types (problem_of family size) problem like;
    }

-- ---- refusals

-- where there is one answer at most, and parts are one, what else is answered is want of memory
only_memory : {A : Type 0} (Has : Result A TaskRefusal → Type 0) → ((one other : Result A TaskRefusal) → Has one → Has other → one ≡ other) → (parts : A) → Has (Ok parts) → (refusal : TaskRefusal) → OrMemory Has (Err refusal) → refusal ≡ OutOfMemory
only_memory Has one parts has (Unknown at) is = let same = one (Ok parts) (Err (Unknown at)) has is in absurd (cc)
only_memory Has one parts has (Twice at) is = let same = one (Ok parts) (Err (Twice at)) has is in absurd (cc)
only_memory Has one parts has (Arity at) is = let same = one (Ok parts) (Err (Arity at)) has is in absurd (cc)
only_memory Has one parts has (TypeCycle at) is = let same = one (Ok parts) (Err (TypeCycle at)) has is in absurd (cc)
only_memory Has one parts has (OtherDomain at) is = let same = one (Ok parts) (Err (OtherDomain at)) has is in absurd (cc)
only_memory Has one parts has NoObject is = let same = one (Ok parts) (Err NoObject) has is in absurd (cc)
only_memory Has one parts has (Limit which count) is = let same = one (Ok parts) (Err (Limit which count)) has is in absurd (cc)
only_memory Has one parts has OutOfMemory is = refl

pub task_refused : (family : Family) (domain : DomainText) (refusal : TaskRefusal) → HasDomain (printed_domain (domain_of family)) domain → IsTaskReply domain (Err refusal) → refusal ≡ OutOfMemory
task_refused family domain refusal has reply = only_memory (HasTaskReply domain) (one-task domain) (family_task family) (task_of_text family domain has) refusal reply

pub instance_refused : (family : Family) (size : ℕ) (domain : DomainText) (problem : ProblemText) (refusal : TaskRefusal) → 0 < size → size ≤ 256
    → HasDomain (printed_domain (domain_of family)) domain → HasProblem (printed_problem (problem_of family size)) problem → IsInstanceReply domain problem (Err refusal) → refusal ≡ OutOfMemory
instance_refused family size domain problem refusal some few has_domain has_problem reply =
    only_memory (HasInstanceReply domain problem) (one-instance domain problem) (family_instance family size) (instance_of_text family size domain problem some few has_domain has_problem) refusal reply
