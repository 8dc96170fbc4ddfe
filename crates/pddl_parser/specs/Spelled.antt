-- What is always true of the words and lists of a text that was read.
use Rattle.std.specs.Prelude.{◌≡◌, ℕ, ◌≤◌, ◌⊎◌, false, List, [], ◌∷◌, length, IfSome, All, codes}
use Rattle.flag_rules.specs.Name.{IsName}
use Rattle.pddl_forms.specs.declared.texts.Word.{Word}
use Rattle.pddl_forms.specs.declared.texts.Typed.{Typed}
use Rattle.pddl_forms.specs.declared.texts.AtomText.{AtomText}
use Rattle.pddl_parser.specs.declared.texts.PredText.{PredText}
use Rattle.pddl_parser.specs.declared.texts.ActionText.{ActionText}
use Rattle.pddl_parser.specs.declared.texts.DomainText.{DomainText}
use Rattle.pddl_parser.specs.declared.texts.ProblemText.{ProblemText}
use Rattle.pddl_forms.specs.Forms.{is_reserved}

-- a `?`, 63, and then a name
abbrev pub IsVariable : List ℕ → Type 0
IsVariable [] = ⊥
IsVariable (b ∷ bs) = (b ≡ 63) × IsName bs

-- a name or a variable
abbrev pub IsTermText : List ℕ → Type 0
IsTermText text = IsName text ⊎ IsVariable text

-- a word of `:requirements`
abbrev pub IsRequirementText : List ℕ → Type 0
IsRequirementText text = (text ≡ codes ":strips") ⊎ (text ≡ codes ":typing")

-- a word of a typed list is spelled so, and the type that it is given is a name
pub record IsTypedSpelled (IsWord : List ℕ → Type 0) (typed : Typed) : Type 0 where
  pub own : IsWord typed.word.text
  pub of : IfSome typed.of (λ (of : Word). IsName of.text)

-- a name that is not reserved
pub record IsHeadText (text : List ℕ) : Type 0 where
  pub own : IsName text
  pub free : is_reserved text ≡ false

-- a predicate whose head may head atoms, and whose parameters are variables
pub record IsPredicateSpelled (predicate : PredText) : Type 0 where
  pub head : IsHeadText predicate.head.text
  pub params : All (IsTypedSpelled IsVariable) predicate.params

-- an atom whose head may head an atom, and whose arguments are spelled so
pub record IsAtomSpelled (IsArgument : List ℕ → Type 0) (atom : AtomText) : Type 0 where
  pub head : IsHeadText atom.head.text
  pub args : All (λ (w : Word). IsArgument w.text) atom.args

-- an action whose name is a name, whose parameters are variables, and whose atoms are of names and variables
pub record IsActionSpelled (action : ActionText) : Type 0 where
  pub own : IsName action.name.text
  pub params : All (IsTypedSpelled IsVariable) action.params
  pub pre : All (IsAtomSpelled IsTermText) action.pre
  pub add : All (IsAtomSpelled IsTermText) action.add
  pub del : All (IsAtomSpelled IsTermText) action.del

-- the words of a domain are spelled as names, as variables and as keywords
pub record IsDomainSpelled (text : DomainText) : Type 0 where
  pub own : IsName text.name.text
  pub requirements : All (λ (w : Word). IsRequirementText w.text) text.requirements
  pub types : All (IsTypedSpelled IsName) text.types
  pub constants : All (IsTypedSpelled IsName) text.constants
  pub predicates : All IsPredicateSpelled text.predicates
  pub actions : All IsActionSpelled text.actions

-- the words of a problem are spelled as names and as keywords
pub record IsProblemSpelled (text : ProblemText) : Type 0 where
  pub own : IsName text.name.text
  pub domain : IsName text.domain.text
  pub requirements : All (λ (w : Word). IsRequirementText w.text) text.requirements
  pub objects : All (IsTypedSpelled IsName) text.objects
  pub init : All (IsAtomSpelled IsName) text.init
  pub goal : All (IsAtomSpelled IsName) text.goal

-- an action whose parameters and atoms are each at most so many
pub record IsActionWithin (count : ℕ) (action : ActionText) : Type 0 where
  pub params : length action.params ≤ count
  pub pre : length action.pre ≤ count
  pub add : length action.add ≤ count
  pub del : length action.del ≤ count

-- a domain whose types, constants, predicates and actions are each at most so many, and so are the parameters and the atoms
-- of each action
pub record IsDomainWithin (count : ℕ) (text : DomainText) : Type 0 where
  pub types : length text.types ≤ count
  pub constants : length text.constants ≤ count
  pub predicates : length text.predicates ≤ count
  pub actions : length text.actions ≤ count
  pub each : All (IsActionWithin count) text.actions

-- a problem whose objects and atoms are each at most so many
pub record IsProblemWithin (count : ℕ) (text : ProblemText) : Type 0 where
  pub objects : length text.objects ≤ count
  pub init : length text.init ≤ count
  pub goal : length text.goal ≤ count
