-- Lists that hold the same names: what is a fault over one is a fault over the other.
use Rattle.std.proofs.Common.{◌≡◌, ℕ, List, [], ◌++◌, map, take, Option, ◌||◌, refl, sym, ap₂, ◌∙◌, inl, inr, bytes_eq}
use Rattle.std.specs.Prelude.{Any, Contains}
use Rattle.std.proofs.lemmas.List.Folds.{list_any-append}
use Rattle.pddl_forms.specs.declared.texts.Word.{Word}
use Rattle.pddl_forms.specs.declared.texts.AtomText.{AtomText}
use Rattle.pddl_parser.specs.declared.texts.ActionText.{ActionText}
use Rattle.pddl_task.specs.declared.fault.Fault.{Fault}
use Rattle.pddl_task.specs.Names.{is_among}
use Rattle.pddl_task.specs.Types.{text_of, names_of}
use Rattle.pddl_task.specs.Faults.{IsFirst, IsTwice, IsUnknownName, IsAtomFault, IsActionFault}
use Rattle.pddl_task.specs.Inner.Names.{different}
use Rattle.pddl_task.proofs.Among.{among_all, is_there, is_found}
use Rattle.pddl_task.proofs.Anys.{any_weaker}
use Rattle.pddl_task.proofs.First.{first_same}

-- two lists hold the same names
pub record AreAlike (one other : List (List ℕ)) : Type 0 where
  pub same : (name : List ℕ) → is_among name one ≡ is_among name other

pub alike_itself : (names : List (List ℕ)) → AreAlike names names
alike_itself names = record { same = λ name. refl }

-- names, each once, are the same names
pub alike_different : (names : List (List ℕ)) → AreAlike (different names) names
alike_different names = record { same = λ name. among_all name [] names }

pub alike_joined : (a b c d : List (List ℕ)) → AreAlike a b → AreAlike c d → AreAlike (a ++ c) (b ++ d)
alike_joined a b c d one other = record {
  same = λ name. list_any-append (bytes_eq name) a c ∙ ap₂ ◌||◌ (one.same name) (other.same name) ∙ sym (list_any-append (bytes_eq name) b d);
}

alike_back : (a b : List (List ℕ)) → AreAlike a b → AreAlike b a
alike_back a b alike = record { same = λ name. sym (alike.same name) }

-- a name of one is a name of the other
still_there : (a b : List (List ℕ)) → AreAlike a b → (name : List ℕ) → Contains a name → Contains b name
still_there a b alike name there = is_there name b (sym (alike.same name) ∙ is_found name a there)

still_twice : (a b : List (List ℕ)) → AreAlike a b → (words : List Word) (f : Fault) → IsTwice a words f → IsTwice b words f
still_twice a b alike words f (k, word, at, there, is) =
    (k, word, at, still_there (a ++ map text_of (take k words)) (b ++ map text_of (take k words)) (alike_joined a b (map text_of (take k words)) (map text_of (take k words)) alike (alike_itself (map text_of (take k words)))) word.text there, is)

still_unknown : (a b : List (List ℕ)) → AreAlike a b → (f : Fault) (word : Word) → IsUnknownName a f word → IsUnknownName b f word
still_unknown a b alike f word (absent, is) = (λ there. absent (still_there b a (alike_back a b alike) word.text there), is)

module _ (arities : List ℕ → Option ℕ) where
  still_atom : (a b : List (List ℕ)) → AreAlike a b → (f : Fault) (atom : AtomText) → IsAtomFault arities a f atom → IsAtomFault arities b f atom
  still_atom a b alike f atom has = elim has [
    | inl head ↦ inl head
    | inr some ↦ inr (any_weaker (IsUnknownName a f) (IsUnknownName b f) atom.args (still_unknown a b alike f) some)
  ]

  still_atoms : (a b : List (List ℕ)) → AreAlike a b → (f : Fault) (atoms : List AtomText) → Any (IsAtomFault arities a f) atoms → Any (IsAtomFault arities b f) atoms
  still_atoms a b alike f atoms some = any_weaker (IsAtomFault arities a f) (IsAtomFault arities b f) atoms (still_atom a b alike f) some

  still_action : (types a b : List (List ℕ)) → AreAlike a b → (f : Fault) (action : ActionText) → IsActionFault types arities a f action → IsActionFault types arities b f action
  still_action types a b alike f action has = elim has [
    | inl twice ↦ inl twice
    | inr rest ↦ elim rest [
      | inl unknown ↦ inr (inl unknown)
      | inr some ↦ inr (inr (still_atoms (names_of action.params ++ a) (names_of action.params ++ b) (alike_joined (names_of action.params) (names_of action.params) a b (alike_itself (names_of action.params)) alike) f (action.pre ++ (action.add ++ action.del)) some))
    ]
  ]

  -- the first fault of atoms is the same one
  pub first_of_atoms_over : (a b : List (List ℕ)) (atoms : List AtomText) (o : Option Fault) → AreAlike a b → IsFirst (λ f. Any (IsAtomFault arities a f) atoms) o → IsFirst (λ f. Any (IsAtomFault arities b f) atoms) o
  first_of_atoms_over a b atoms o alike first =
      first_same (λ f. Any (IsAtomFault arities a f) atoms) (λ f. Any (IsAtomFault arities b f) atoms) o
      (λ f some. still_atoms a b alike f atoms some) (λ f some. still_atoms b a (alike_back a b alike) f atoms some) first

  -- and so is that of actions
  pub first_of_actions_over : (types a b : List (List ℕ)) (actions : List ActionText) (o : Option Fault) → AreAlike a b → IsFirst (λ f. Any (IsActionFault types arities a f) actions) o
      → IsFirst (λ f. Any (IsActionFault types arities b f) actions) o
  first_of_actions_over types a b actions o alike first =
      first_same (λ f. Any (IsActionFault types arities a f) actions) (λ f. Any (IsActionFault types arities b f) actions) o
      (λ f some. any_weaker (IsActionFault types arities a f) (IsActionFault types arities b f) actions (still_action types a b alike f) some)
      (λ f some. any_weaker (IsActionFault types arities b f) (IsActionFault types arities a f) actions (still_action types b a (alike_back a b alike) f) some)
      first

-- and that of words that stand again
pub first_twice_over : (a b : List (List ℕ)) (words : List Word) (o : Option Fault) → AreAlike a b → IsFirst (IsTwice a words) o → IsFirst (IsTwice b words) o
first_twice_over a b words o alike first =
    first_same (IsTwice a words) (IsTwice b words) o (λ f has. still_twice a b alike words f has) (λ f has. still_twice b a (alike_back a b alike) words f has) first
