-- When a text says the same as another: its words are the same, in the same order, wherever they stand, and a word of a typed
-- list may have the type `object` where the other has none.
use Rattle.std.specs.Prelude.{◌≡◌, List, [], ◌∷◌, Option, Some, None, codes}
use Rattle.pddl_forms.specs.declared.texts.Word.{Word}
use Rattle.pddl_forms.specs.declared.texts.Typed.{Typed}
use Rattle.pddl_forms.specs.declared.texts.AtomText.{AtomText}
use Rattle.pddl_parser.specs.declared.texts.PredText.{PredText}
use Rattle.pddl_parser.specs.declared.texts.ActionText.{ActionText}
use Rattle.pddl_parser.specs.declared.texts.DomainText.{DomainText}
use Rattle.pddl_parser.specs.declared.texts.ProblemText.{ProblemText}

-- the same word, wherever it stands
abbrev pub AlikeWord : Word → Word → Type 0
AlikeWord one other = one.text ≡ other.text

-- as many items, and each like the one in its place
abbrev pub AreAlike : {A : Type 0} → (A → A → Type 0) → List A → List A → Type 0
AreAlike Alike [] [] = Unit {0}
AreAlike Alike [] (y ∷ ys) = ⊥
AreAlike Alike (x ∷ xs) [] = ⊥
AreAlike Alike (x ∷ xs) (y ∷ ys) = Alike x y × AreAlike Alike xs ys

-- the same type, or where there was none, none or `object`
abbrev pub AlikeType : Option Word → Option Word → Type 0
AlikeType None None = Unit {0}
AlikeType None (Some other) = other.text ≡ codes "object"
AlikeType (Some one) None = ⊥
AlikeType (Some one) (Some other) = AlikeWord one other

pub record AlikeTyped (one other : Typed) : Type 0 where
  pub word : AlikeWord one.word other.word
  pub of : AlikeType one.of other.of

pub record AlikeAtom (one other : AtomText) : Type 0 where
  pub head : AlikeWord one.head other.head
  pub args : AreAlike AlikeWord one.args other.args

pub record AlikePredicate (one other : PredText) : Type 0 where
  pub head : AlikeWord one.head other.head
  pub params : AreAlike AlikeTyped one.params other.params

pub record AlikeAction (one other : ActionText) : Type 0 where
  pub name : AlikeWord one.name other.name
  pub params : AreAlike AlikeTyped one.params other.params
  pub pre : AreAlike AlikeAtom one.pre other.pre
  pub add : AreAlike AlikeAtom one.add other.add
  pub del : AreAlike AlikeAtom one.del other.del

pub record AlikeDomain (one other : DomainText) : Type 0 where
  pub name : AlikeWord one.name other.name
  pub requirements : AreAlike AlikeWord one.requirements other.requirements
  pub types : AreAlike AlikeTyped one.types other.types
  pub constants : AreAlike AlikeTyped one.constants other.constants
  pub predicates : AreAlike AlikePredicate one.predicates other.predicates
  pub actions : AreAlike AlikeAction one.actions other.actions

pub record AlikeProblem (one other : ProblemText) : Type 0 where
  pub name : AlikeWord one.name other.name
  pub domain : AlikeWord one.domain other.domain
  pub requirements : AreAlike AlikeWord one.requirements other.requirements
  pub objects : AreAlike AlikeTyped one.objects other.objects
  pub init : AreAlike AlikeAtom one.init other.init
  pub goal : AreAlike AlikeAtom one.goal other.goal
