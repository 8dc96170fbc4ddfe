-- The parts of a domain that was read, has no fault and exceeds no limit are those of a task.
use Rattle.std.proofs.Common.{◌≡◌, ◌<◌, ◌≤◌, ◌^◌, List, ◌++◌, length, map, get_or, refl, sym, ◌∙◌}
use Rattle.std.specs.Prelude.{All}
use Rattle.std.proofs.lemmas.List.{length-map}
use Rattle.std.proofs.lemmas.List.Elements.{All-map, All-weaker}
use Rattle.flag_rules.specs.Name.{IsName}
use Rattle.pddl_forms.specs.declared.texts.Word.{Word}
use Rattle.pddl_forms.specs.declared.texts.AtomText.{AtomText}
use Rattle.pddl_parser.specs.declared.texts.PredText.{PredText}
use Rattle.pddl_parser.specs.declared.texts.ActionText.{ActionText}
use Rattle.pddl_parser.specs.declared.texts.DomainText.{DomainText}
use Rattle.pddl_parser.specs.Replies.{IsDomainText}
use Rattle.pddl_parser.specs.Spelled.{IsPredicateSpelled, IsActionSpelled}
use Rattle.pddl_parser.proofs.Readable.{domain-spelled}
use Rattle.ground_state.specs.declared.parts.PredicateEntry.{PredicateEntry}
use Rattle.ground_state.specs.declared.parts.SchemaEntry.{SchemaEntry}
use Rattle.ground_state.specs.declared.parts.TaskParts.{TaskParts}
use Rattle.ground_state.specs.declared.parts.TheConstants.{MAX_ARITY, MAX_PARAMETERS}
use Rattle.ground_state.specs.Task.{IsTask, ArePredicates, AreSchemas, IsSchema, AreLifted, IsLifted}
use Rattle.pddl_task.specs.Types.{text_of, names_of, type_names, type_number, types_of}
use Rattle.pddl_task.specs.Faults.{head_of, action_word, arity_named}
use Rattle.pddl_task.specs.Parts.{TaskOf, task_of, predicate_of, schema_of, lifted_of, heads_of}
use Rattle.pddl_task.proofs.AtomsFit.{lifted_fits}
use Rattle.pddl_task.proofs.Bounds.{IsWithinLimits, HasFewAtoms, domain_limits, predicates_few, actions_few, atoms_few}
use Rattle.pddl_task.proofs.Composed.{map-map}
use Rattle.pddl_task.proofs.Faultless.{IsSoundDomain, IsSoundAction, IsTypedIn, IsKnownAtom, sound_domain}
use Rattle.pddl_task.proofs.ObjectsFit.{names_long, type_low, objects_fit}
use Rattle.pddl_task.proofs.TypesFit.{types_fit}

module _ (domain : DomainText) (read : IsDomainText domain) (sound : IsSoundDomain domain) (limits : IsWithinLimits domain) where
  predicates_fit : ArePredicates (map predicate_of domain.predicates)
  predicates_fit =
      let names : map (λ (entry : PredicateEntry). entry.name) (map predicate_of domain.predicates) ≡ heads_of domain.predicates =
      map-map (λ (entry : PredicateEntry). entry.name) predicate_of domain.predicates ∙ sym (map-map text_of head_of domain.predicates) in
      record {
        few = rw length-map (predicates_few domain read);
        names = rw names (record {
          each = All-map IsName text_of (map head_of domain.predicates) (All-map (λ (word : Word). IsName word.text) head_of domain.predicates
              (All-weaker IsPredicateSpelled (λ (predicate : PredText). IsName predicate.head.text) (λ predicate of. of.head.own) domain.predicates (domain-spelled domain read).predicates));
          differ = sound.heads;
        });
        arities = All-map (λ (entry : PredicateEntry). entry.arity ≤ MAX_ARITY) predicate_of domain.predicates limits.arities;
      }

  -- the atoms of one list of an action
  atoms_fit : (action : ActionText) (atoms : List AtomText) → length atoms < 2 ^ 32 → All (IsKnownAtom (arity_named domain.predicates) (names_of action.params ++ names_of domain.constants)) atoms
      → AreLifted (task_of domain) (length (names_of action.params)) (map (lifted_of (heads_of domain.predicates) (names_of action.params) (names_of domain.constants)) atoms)
  atoms_fit action atoms few known =
      let constants : length (task_of domain).constants ≡ length (names_of domain.constants) = length-map _ _ ∙ sym (names_long domain.constants) in
      record {
        few = rw length-map few;
        each = All-map (IsLifted (task_of domain) (length (names_of action.params))) (lifted_of (heads_of domain.predicates) (names_of action.params) (names_of domain.constants)) atoms
            (All-weaker (IsKnownAtom (arity_named domain.predicates) (names_of action.params ++ names_of domain.constants)) (λ atom. IsLifted (task_of domain) (length (names_of action.params)) (lifted_of (heads_of domain.predicates) (names_of action.params) (names_of domain.constants) atom))
            (λ atom of. lifted_fits domain.predicates (names_of action.params) (names_of domain.constants) (task_of domain) atom refl constants of) atoms known);
      }

  schema_fits : (action : ActionText) → length action.params ≤ MAX_PARAMETERS → HasFewAtoms action → IsSoundAction (type_names domain.types) (arity_named domain.predicates) (names_of domain.constants) action
      → IsSchema (task_of domain) (schema_of (type_names domain.types) (heads_of domain.predicates) (names_of domain.constants) action)
  schema_fits action few short known =
      let params : length (map (type_number (type_names domain.types)) action.params) ≡ length (names_of action.params) = length-map _ _ ∙ sym (names_long action.params) in
      record {
        few = rw length-map few;
        params = All-map (λ number. number < length (types_of domain.types)) (type_number (type_names domain.types)) action.params
            (All-weaker (IsTypedIn (type_names domain.types)) (λ typed. type_number (type_names domain.types) typed < length (types_of domain.types)) (type_low domain.types) action.params known.typed);
        pre = rw params (atoms_fit action action.pre short.pre known.pre);
        add = rw params (atoms_fit action action.add short.add known.add);
        del = rw params (atoms_fit action action.del short.del known.del);
      }

  schemas_fit : AreSchemas (task_of domain) (task_of domain).schemas
  schemas_fit =
      let schema = schema_of (type_names domain.types) (heads_of domain.predicates) (names_of domain.constants) in
      let names : map (λ (entry : SchemaEntry). entry.name) (task_of domain).schemas ≡ map text_of (map action_word domain.actions) =
      map-map (λ (entry : SchemaEntry). entry.name) schema domain.actions ∙ sym (map-map text_of action_word domain.actions) in
      record {
        few = rw length-map (actions_few domain read);
        names = rw names (record {
          each = All-map IsName text_of (map action_word domain.actions) (All-map (λ (word : Word). IsName word.text) action_word domain.actions
              (All-weaker IsActionSpelled (λ (action : ActionText). IsName action.name.text) (λ action of. of.own) domain.actions (domain-spelled domain read).actions));
          differ = sound.actions;
        });
        each = All-map (IsSchema (task_of domain)) schema domain.actions
            (λ k d less. schema_fits (get_or domain.actions k d) (limits.params k d less) (atoms_few domain read k d less) (sound.each k d less));
      }

  made_fits : IsTask (task_of domain)
  made_fits = record {
    types = types_fit domain read sound;
    constants = objects_fit domain.types domain.constants limits.constants (domain-spelled domain read).constants sound.constants sound.typed;
    predicates = predicates_fit;
    schemas = schemas_fit;
  }

pub task-fits : (d : DomainText) (parts : TaskParts) → IsDomainText d → TaskOf d parts → IsTask parts
task-fits d parts read is = rw is.made (made_fits d read (sound_domain d is.faultless) (domain_limits d is.within))
