-- The faults of the texts of domains and problems, each with its place, and which of them is told.
use Rattle.std.specs.Prelude.{ℕ, ◌≡◌, ◌≢◌, ◌⊎◌, Bool, false, ◌||◌, ◌&&◌, ◌==◌, List, [], ◌++◌, Option, Some, None, if◌then◌else◌, nat_lt, map, find, option_map, take, length, slice_get, Any, Contains, bytes_eq}
use Rattle.std.specs.Option.{option_or}
use Rattle.pddl_forms.specs.declared.texts.Word.{Word}
use Rattle.pddl_forms.specs.declared.texts.Typed.{Typed}
use Rattle.pddl_forms.specs.declared.texts.AtomText.{AtomText}
use Rattle.pddl_parser.specs.declared.texts.PredText.{PredText}
use Rattle.pddl_parser.specs.declared.texts.ActionText.{ActionText}
use Rattle.pddl_parser.specs.declared.texts.DomainText.{DomainText}
use Rattle.pddl_parser.specs.declared.texts.ProblemText.{ProblemText}
use Rattle.ground_state.specs.declared.parts.TheConstants.{MAX_OBJECTS, MAX_ARITY, MAX_PARAMETERS}
use Rattle.ground_state.specs.Task.{Reaches}
use Rattle.pddl_task.specs.declared.fault.Fault.{Fault}
use Rattle.pddl_task.specs.declared.fault.FaultKind.{FaultKind}
use Rattle.pddl_task.specs.declared.fault.FaultKind.TheVariants.{Twice, Unknown, Arity, TypeCycle, OtherDomain}
use Rattle.pddl_task.specs.declared.refusal.TaskRefusal.{TaskRefusal}
use Rattle.pddl_task.specs.declared.refusal.TaskRefusal.TheVariants as refusals
use Rattle.pddl_task.specs.declared.refusal.Which.TheVariants as limits
use Rattle.pddl_task.specs.Names.{number_of}
use Rattle.pddl_task.specs.Types.{root, text_of, word_of, names_of, type_names, types_of, type_of}

-- a fault at a word
abbrev pub fault_at : FaultKind → Word → Fault
fault_at kind word = record { kind = kind; at = word.at }

-- the word of a predicate
abbrev pub head_of : PredText → Word
head_of predicate = predicate.head

-- the word of an action
abbrev pub action_word : ActionText → Word
action_word action = action.name

-- a word that is one of these names or equal to a word before it
abbrev pub IsTwice : List (List ℕ) → List Word → Fault → Type 0
IsTwice names words fault = (k : ℕ) × (word : Word) × (slice_get words k ≡ Some word) × Contains (names ++ map text_of (take k words)) word.text × (fault ≡ fault_at Twice word)

-- a type, outside `:types`, that is none
abbrev pub IsUnknownType : List (List ℕ) → Fault → Typed → Type 0
IsUnknownType types fault typed = (of : Word) × (typed.of ≡ Some of) × (Contains types of.text → ⊥) × (fault ≡ fault_at Unknown of)

-- a type of a predicate's parameter that is none
abbrev pub IsUnknownParameter : List (List ℕ) → Fault → PredText → Type 0
IsUnknownParameter types fault predicate = Any (IsUnknownType types fault) predicate.params

-- a word of an atom that is none of the known names
abbrev pub IsUnknownName : List (List ℕ) → Fault → Word → Type 0
IsUnknownName names fault word = (Contains names word.text → ⊥) × (fault ≡ fault_at Unknown word)

-- the number of parameters of the predicate of a name, which is the first with it
abbrev pub arity_named : List PredText → List ℕ → Option ℕ
arity_named predicates name = option_map (λ (predicate : PredText). length predicate.params) (find (λ (predicate : PredText). bytes_eq name predicate.head.text) predicates)

-- the head of an atom that is no predicate, or whose predicate has another number of parameters than the atom has arguments
abbrev pub IsHeadFault : Option ℕ → Fault → AtomText → Type 0
IsHeadFault None fault atom = fault ≡ fault_at Unknown atom.head
IsHeadFault (Some arity) fault atom = (arity ≢ length atom.args) × (fault ≡ fault_at Arity atom.head)

-- a fault of an atom, where these are the numbers of parameters by name, and the known names
abbrev pub IsAtomFault : (List ℕ → Option ℕ) → List (List ℕ) → Fault → AtomText → Type 0
IsAtomFault arities names fault atom = IsHeadFault (arities atom.head.text) fault atom ⊎ Any (IsUnknownName names fault) atom.args

-- a fault of an action: a parameter twice, a type that is none, or a fault of an atom, whose names may be the parameters and the constants
abbrev pub IsActionFault : List (List ℕ) → (List ℕ → Option ℕ) → List (List ℕ) → Fault → ActionText → Type 0
IsActionFault types arities constants fault action =
    IsTwice [] (map word_of action.params) fault
    ⊎ (Any (IsUnknownType types fault) action.params
    ⊎ Any (IsAtomFault arities (names_of action.params ++ constants) fault) (action.pre ++ (action.add ++ action.del)))

-- a word of `:types` whose parents never reach `object`, or the word `object` with another parent
abbrev pub IsTypeCycle : List Typed → Fault → Typed → Type 0
IsTypeCycle types fault typed =
    ((Reaches (types_of types) (number_of (type_names types) typed.word.text) 0 → ⊥) ⊎ ((typed.word.text ≡ root) × (type_of typed ≢ root)))
    × (fault ≡ fault_at TypeCycle typed.word)

-- a fault of a domain; which of them is told is said by `IsFirst`
pub data IsDomainFault (domain : DomainText) (fault : Fault) : Type 0 where
  type_twice : IsTwice [] (map word_of domain.types) fault → IsDomainFault domain fault
  constant_twice : IsTwice [] (map word_of domain.constants) fault → IsDomainFault domain fault
  predicate_twice : IsTwice [] (map head_of domain.predicates) fault → IsDomainFault domain fault
  action_twice : IsTwice [] (map action_word domain.actions) fault → IsDomainFault domain fault
  type_astray : Any (IsTypeCycle domain.types fault) domain.types → IsDomainFault domain fault
  of_constant : Any (IsUnknownType (type_names domain.types) fault) domain.constants → IsDomainFault domain fault
  of_predicate : Any (IsUnknownParameter (type_names domain.types) fault) domain.predicates → IsDomainFault domain fault
  of_action : Any (IsActionFault (type_names domain.types) (arity_named domain.predicates) (names_of domain.constants) fault) domain.actions → IsDomainFault domain fault

-- a fault of a problem over a domain, where an atom's names may be the constants and the objects
pub data IsProblemFault (domain : DomainText) (problem : ProblemText) (fault : Fault) : Type 0 where
  object_twice : IsTwice (names_of domain.constants) (map word_of problem.objects) fault → IsProblemFault domain problem fault
  of_object : Any (IsUnknownType (type_names domain.types) fault) problem.objects → IsProblemFault domain problem fault
  of_atom : Any (IsAtomFault (arity_named domain.predicates) (names_of domain.constants ++ names_of problem.objects) fault) (problem.init ++ problem.goal) → IsProblemFault domain problem fault
  other_domain : problem.domain.text ≢ domain.name.text → fault ≡ fault_at OtherDomain problem.domain → IsProblemFault domain problem fault

-- the place of a kind in the order of kinds
abbrev pub rank_of : FaultKind → ℕ
rank_of Twice = 0
rank_of Unknown = 1
rank_of Arity = 2
rank_of TypeCycle = 3
rank_of OtherDomain = 4

-- whether a fault stands at a lesser place than another one, or at the same place and earlier in the order
abbrev pub comes_before : Fault → Fault → Bool
comes_before one other = nat_lt one.at other.at || (one.at == other.at && nat_lt (rank_of one.kind) (rank_of other.kind))

-- the first of all faults, or that there is none
abbrev pub IsFirst : (Fault → Type 0) → Option Fault → Type 0
IsFirst IsFault None = (fault : Fault) → IsFault fault → ⊥
IsFirst IsFault (Some fault) = IsFault fault × ((other : Fault) → IsFault other → comes_before other fault ≡ false)

-- how many parameters the first action has that has too many
abbrev pub actions_limit : List ActionText → Option TaskRefusal
actions_limit actions = option_map (refusals.Limit limits.Parameters) (find (λ count. nat_lt MAX_PARAMETERS count) (map (λ (action : ActionText). length action.params) actions))

-- how many parameters the first predicate has that has too many
abbrev pub predicates_limit : List PredText → Option TaskRefusal
predicates_limit predicates = option_map (refusals.Limit limits.Arity) (find (λ count. nat_lt MAX_ARITY count) (map (λ (predicate : PredText). length predicate.params) predicates))

-- so many objects or constants, where they are too many
abbrev pub count_limit : ℕ → Option TaskRefusal
count_limit count = if nat_lt MAX_OBJECTS count then Some (refusals.Limit limits.Objects count) else None

-- the first limit that a domain exceeds: parameters of an action, then of a predicate, then constants
abbrev pub domain_limit : DomainText → Option TaskRefusal
domain_limit domain = option_or (option_or (actions_limit domain.actions) (predicates_limit domain.predicates)) (count_limit (length domain.constants))

-- no object and no constant, or too many of them
abbrev pub objects_limit : ℕ → Option TaskRefusal
objects_limit count = if count == 0 then Some refusals.NoObject else count_limit count

-- the limit that the constants of a domain and the objects of a problem exceed together
abbrev pub problem_limit : DomainText → ProblemText → Option TaskRefusal
problem_limit domain problem = objects_limit (length (domain.constants ++ problem.objects))

-- how a fault is told by its kind and its place
abbrev pub refusal_for : FaultKind → ℕ → TaskRefusal
refusal_for Twice at = refusals.Twice at
refusal_for Unknown at = refusals.Unknown at
refusal_for Arity at = refusals.Arity at
refusal_for TypeCycle at = refusals.TypeCycle at
refusal_for OtherDomain at = refusals.OtherDomain at

-- how a fault is told
abbrev pub refusal_of : Fault → TaskRefusal
refusal_of fault = refusal_for fault.kind fault.at
