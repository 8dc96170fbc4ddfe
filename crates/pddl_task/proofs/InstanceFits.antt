-- The parts of a problem that was read, has no fault and exceeds no limit are those of an instance of its task.
use Rattle.std.proofs.Common.{◌≡◌, ◌<◌, ◌≤◌, List, ◌++◌, length, map, sym, ◌∙◌}
use Rattle.std.specs.Prelude.{All}
use Rattle.std.proofs.lemmas.List.{length-map}
use Rattle.std.proofs.lemmas.List.Elements.{All-append, All-map, All-weaker}
use Rattle.flag_rules.specs.Name.{IsName}
use Rattle.pddl_forms.specs.declared.texts.AtomText.{AtomText}
use Rattle.pddl_parser.specs.declared.texts.DomainText.{DomainText}
use Rattle.pddl_parser.specs.declared.texts.ProblemText.{ProblemText}
use Rattle.pddl_parser.specs.Replies.{IsDomainText, IsProblemText}
use Rattle.pddl_parser.specs.Spelled.{IsTypedSpelled}
use Rattle.pddl_parser.proofs.Readable.{domain-spelled, problem-spelled}
use Rattle.ground_state.specs.declared.parts.TaskParts.{TaskParts}
use Rattle.ground_state.specs.declared.parts.InstanceParts.{InstanceParts}
use Rattle.ground_state.specs.declared.parts.TheConstants.{MAX_OBJECTS}
use Rattle.ground_state.specs.Task.{arities_of}
use Rattle.ground_state.specs.Instance.{IsInstance, IsFact}
use Rattle.pddl_task.specs.Types.{names_of, type_names}
use Rattle.pddl_task.specs.Faults.{arity_named}
use Rattle.pddl_task.specs.Parts.{TaskOf, InstanceOf, task_of, instance_of, object_of, fact_of, heads_of}
use Rattle.pddl_task.proofs.AtomsFit.{fact_fits}
use Rattle.pddl_task.proofs.Bounds.{problem_limits}
use Rattle.pddl_task.proofs.Faultless.{IsSoundDomain, IsSoundProblem, IsTypedIn, IsKnownAtom, sound_domain, sound_problem}
use Rattle.pddl_task.proofs.Mapped.{map-append}
use Rattle.pddl_task.proofs.ObjectsFit.{names_long, objects_fit}

-- the atoms of one list of a problem
facts_fit : (domain : DomainText) (problem : ProblemText) (atoms : List AtomText) → All (IsKnownAtom (arity_named domain.predicates) (names_of (domain.constants ++ problem.objects))) atoms
    → All (IsFact (length (names_of (domain.constants ++ problem.objects))) (arities_of (task_of domain))) (map (fact_of (heads_of domain.predicates) (names_of (domain.constants ++ problem.objects))) atoms)
facts_fit domain problem atoms known =
    let names = names_of (domain.constants ++ problem.objects) in
    All-map (IsFact (length names) (arities_of (task_of domain))) (fact_of (heads_of domain.predicates) names) atoms
    (All-weaker (IsKnownAtom (arity_named domain.predicates) names) (λ atom. IsFact (length names) (arities_of (task_of domain)) (fact_of (heads_of domain.predicates) names atom)) (fact_fits domain.predicates names) atoms known)

made_fits : (domain : DomainText) (problem : ProblemText) → IsDomainText domain → IsProblemText problem → IsSoundDomain domain → IsSoundProblem domain problem
    → (0 < length (domain.constants ++ problem.objects)) × (length (domain.constants ++ problem.objects) ≤ MAX_OBJECTS) → IsInstance (task_of domain) (instance_of domain problem)
made_fits domain problem domain_read problem_read domain_sound sound limits =
    let long : length (instance_of domain problem).objects ≡ length (names_of (domain.constants ++ problem.objects)) =
    length-map _ _ ∙ sym (names_long (domain.constants ++ problem.objects)) in
    record {
      some = rw length-map limits.0;
      objects = objects_fit domain.types (domain.constants ++ problem.objects) limits.1
          (All-append (IsTypedSpelled IsName) domain.constants problem.objects (domain-spelled domain domain_read).constants (problem-spelled problem problem_read).objects)
          sound.objects
          (All-append (IsTypedIn (type_names domain.types)) domain.constants problem.objects domain_sound.typed sound.typed);
      constants = (map (object_of (type_names domain.types)) problem.objects, map-append (object_of (type_names domain.types)) domain.constants problem.objects);
      init = rw long (facts_fit domain problem problem.init sound.init);
      goal = rw long (facts_fit domain problem problem.goal sound.goal);
    }

pub instance-fits : (d : DomainText) (p : ProblemText) (task : TaskParts) (parts : InstanceParts) → IsDomainText d → TaskOf d task → IsProblemText p → InstanceOf d p parts → IsInstance task parts
instance-fits d p task parts d_read task_is p_read is =
    rw (task_is.made, is.made) (made_fits d p d_read p_read (sound_domain d task_is.faultless) (sound_problem d p task_is.faultless is.faultless) (problem_limits d p is.within))
