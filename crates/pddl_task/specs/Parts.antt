-- The parts of a task and of an instance: the words of their texts in order, with names replaced by numbers.
use Rattle.std.specs.Prelude.{ℕ, ◌≡◌, List, ◌++◌, None, if◌then◌else◌, map, length}
use Rattle.pddl_forms.specs.declared.texts.Word.{Word}
use Rattle.pddl_forms.specs.declared.texts.Typed.{Typed}
use Rattle.pddl_forms.specs.declared.texts.AtomText.{AtomText}
use Rattle.pddl_parser.specs.declared.texts.PredText.{PredText}
use Rattle.pddl_parser.specs.declared.texts.ActionText.{ActionText}
use Rattle.pddl_parser.specs.declared.texts.DomainText.{DomainText}
use Rattle.pddl_parser.specs.declared.texts.ProblemText.{ProblemText}
use Rattle.ground_state.specs.declared.parts.ObjectEntry.{ObjectEntry}
use Rattle.ground_state.specs.declared.parts.PredicateEntry.{PredicateEntry}
use Rattle.ground_state.specs.declared.parts.SchemaEntry.{SchemaEntry}
use Rattle.ground_state.specs.declared.parts.Lifted.{Lifted}
use Rattle.ground_state.specs.declared.parts.Term.{Term}
use Rattle.ground_state.specs.declared.parts.Term.TheVariants.{Param, Object}
use Rattle.ground_state.specs.declared.parts.TaskParts.{TaskParts}
use Rattle.ground_state.specs.declared.parts.InstanceParts.{InstanceParts}
use Rattle.ground_state.specs.declared.parts.Fact.{Fact}
use Rattle.pddl_task.specs.Names.{is_among, number_of}
use Rattle.pddl_task.specs.Types.{text_of, names_of, type_names, type_number, types_of}
use Rattle.pddl_task.specs.Faults.{head_of, IsFirst, IsDomainFault, IsProblemFault, domain_limit, problem_limit}

-- an object or a constant, where types have these names: its name, and the number of its type
abbrev pub object_of : List (List ℕ) → Typed → ObjectEntry
object_of types typed = record { name = typed.word.text; of = type_number types typed }

-- a predicate: its name, and how many parameters it has
abbrev pub predicate_of : PredText → PredicateEntry
predicate_of text = record { name = text.head.text; arity = length text.params }

-- an argument of an action's atom: the parameter of that name by its place, or else the constant of that name
abbrev pub term_of : List (List ℕ) → List (List ℕ) → Word → Term
term_of params constants word =
    if is_among word.text params then Param (number_of params word.text) else Object (number_of constants word.text)

-- an atom of an action, where predicates, parameters and constants have these names
abbrev pub lifted_of : List (List ℕ) → List (List ℕ) → List (List ℕ) → AtomText → Lifted
lifted_of heads params constants atom = record { pred = number_of heads atom.head.text; args = map (term_of params constants) atom.args }

-- an action, where types, predicates and constants have these names
abbrev pub schema_of : List (List ℕ) → List (List ℕ) → List (List ℕ) → ActionText → SchemaEntry
schema_of types heads constants action = record {
  name = action.name.text;
  params = map (type_number types) action.params;
  pre = map (lifted_of heads (names_of action.params) constants) action.pre;
  add = map (lifted_of heads (names_of action.params) constants) action.add;
  del = map (lifted_of heads (names_of action.params) constants) action.del;
}

-- the names of predicates
abbrev pub heads_of : List PredText → List (List ℕ)
heads_of predicates = map text_of (map head_of predicates)

-- the parts of a domain
abbrev pub task_of : DomainText → TaskParts
task_of domain = record {
  types = types_of domain.types;
  constants = map (object_of (type_names domain.types)) domain.constants;
  predicates = map predicate_of domain.predicates;
  schemas = map (schema_of (type_names domain.types) (heads_of domain.predicates) (names_of domain.constants)) domain.actions;
}

-- an atom of a problem, where predicates and objects have these names
abbrev pub fact_of : List (List ℕ) → List (List ℕ) → AtomText → Fact
fact_of heads objects atom = record { pred = number_of heads atom.head.text; args = map (λ (word : Word). number_of objects word.text) atom.args }

-- the parts of a problem over a domain: the constants and then the objects, and the atoms, repeated ones too
abbrev pub instance_of : DomainText → ProblemText → InstanceParts
instance_of domain problem = record {
  objects = map (object_of (type_names domain.types)) (domain.constants ++ problem.objects);
  init = map (fact_of (heads_of domain.predicates) (names_of (domain.constants ++ problem.objects))) problem.init;
  goal = map (fact_of (heads_of domain.predicates) (names_of (domain.constants ++ problem.objects))) problem.goal;
}

-- the domain has no fault and exceeds no limit, and these are its parts
pub record TaskOf (domain : DomainText) (parts : TaskParts) : Type 0 where
  pub faultless : IsFirst (IsDomainFault domain) None
  pub within : domain_limit domain ≡ None
  pub made : parts ≡ task_of domain

-- the problem has no fault over the domain and exceeds no limit, and these are its parts
pub record InstanceOf (domain : DomainText) (problem : ProblemText) (parts : InstanceParts) : Type 0 where
  pub faultless : IsFirst (IsProblemFault domain problem) None
  pub within : problem_limit domain problem ≡ None
  pub made : parts ≡ instance_of domain problem
