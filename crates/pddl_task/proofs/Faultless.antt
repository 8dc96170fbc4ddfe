-- What a domain and a problem without a fault have: names differ, and every name is known.
use Rattle.std.proofs.Common.{◌≡◌, ◌≢◌, ℕ, zero, suc, ◌<◌, ◌==◌, Bool, true, false, List, [], ◌∷◌, ◌++◌, map, length, take, get_or, Option, Some, None, option_map, unwrap_or, refl, ap, ◌∙◌, inl, inr, arith, append_assoc}
use Rattle.std.specs.Prelude.{All, Any}
use Rattle.std.proofs.lemmas.Bool.Decides.{nat_tests}
use Rattle.std.proofs.lemmas.List.{get_or_default, append-nil, length-map}
use Rattle.std.proofs.lemmas.List.Quantifiers.{all_pairs_push}
use Rattle.ground_state.specs.Task.{Reaches, ancestor}
use Rattle.ground_state.proofs.Typing.{steps_from_Reaches, Reaches-from_steps}
use Rattle.pddl_forms.specs.declared.texts.Word.{Word}
use Rattle.pddl_forms.specs.declared.texts.Typed.{Typed}
use Rattle.pddl_forms.specs.declared.texts.AtomText.{AtomText}
use Rattle.pddl_parser.specs.declared.texts.ActionText.{ActionText}
use Rattle.pddl_parser.specs.declared.texts.DomainText.{DomainText}
use Rattle.pddl_parser.specs.declared.texts.ProblemText.{ProblemText}
use Rattle.pddl_task.specs.declared.fault.Fault.{Fault}
use Rattle.pddl_task.specs.declared.fault.FaultKind.TheVariants.{Twice, Unknown, Arity, TypeCycle}
use Rattle.pddl_task.specs.Names.{number_of, is_among}
use Rattle.pddl_task.specs.Types.{root, text_of, word_of, names_of, type_of, type_names, types_of, entry_of}
use Rattle.pddl_task.specs.Faults.{head_of, action_word, fault_at, IsFirst, IsTwice, IsTypeCycle, IsUnknownType, IsUnknownName, IsHeadFault, IsAtomFault, IsActionFault, IsDomainFault, type_twice, constant_twice, predicate_twice, action_twice, type_astray, of_constant, of_action, IsProblemFault, object_twice, of_object, of_atom, arity_named}
use Rattle.pddl_task.specs.Parts.{heads_of}
use Rattle.pddl_task.specs.Inner.Names.{AreApart}
use Rattle.pddl_task.proofs.Among.{is_absent}
use Rattle.pddl_task.proofs.Ancestors.{low_parents, reaches_soon}
use Rattle.pddl_task.proofs.Anys.{any_left, any_right}
use Rattle.pddl_task.proofs.Mapped.{map-append}
use Rattle.pddl_task.proofs.TypeParents.{root_there, word_there, number_there, root_parent_zero, parents_are_types}

-- where no item has a fault, each has none
pub each_faultless : {X : Type 0} (R : Fault → X → Type 0) (xs : List X) → ((f : Fault) → Any (R f) xs → ⊥) → All (λ x. (f : Fault) → R f x → ⊥) xs
each_faultless R xs free = λ k d less f has. free f (k, get_or xs k d, less, get_or_default xs k (get_or xs k d) d less, has)

-- so each has what an item without a fault has
pub each_then : {X : Type 0} (R : Fault → X → Type 0) (P : X → Type 0) (xs : List X) → ((x : X) → ((f : Fault) → R f x → ⊥) → P x) → ((f : Fault) → Any (R f) xs → ⊥) → All P xs
each_then R P xs then free = λ k d less. then (get_or xs k d) (each_faultless R xs free k d less)

-- words of which none stands again differ, from each other and from the names before them
pub words_apart : (names : List (List ℕ)) (words : List Word) → AreApart names → ((f : Fault) → IsTwice names words f → ⊥) → AreApart (names ++ map text_of words)
words_apart names [] apart free = rw (append-nil names) apart
words_apart names (word ∷ words) apart free =
    rw (← append_assoc names (word.text ∷ []) (map text_of words))
    (words_apart (names ++ word.text ∷ []) words (all_pairs_push (λ one other. one ≢ other) names word.text apart fresh) later)
  where
    fresh : (k : ℕ) (d : List ℕ) → k < length names → get_or names k d ≢ word.text
    fresh k d less = λ same. free (fault_at Twice word) (zero, word, refl, rw (append-nil names) (k, less, get_or_default names k word.text d less ∙ same), refl)

    later : (f : Fault) → IsTwice (names ++ word.text ∷ []) words f → ⊥
    later f (k, other, at, there, is) = free f (suc k, other, at, rw (← append_assoc names (word.text ∷ []) (map text_of (take k words))) there, is)

pub all_apart : (words : List Word) → ((f : Fault) → IsTwice [] words f → ⊥) → AreApart (map text_of words)
all_apart words free = words_apart [] words (λ i j d less within. absurd (omega (arith, within))) free

-- a type that a typed list gives is known
abbrev pub IsTypedIn : List (List ℕ) → Typed → Type 0
IsTypedIn types typed = is_among (type_of typed) types ≡ true

typed_in : (types : List (List ℕ)) → is_among root types ≡ true → (typed : Typed) → ((f : Fault) → IsUnknownType types f typed → ⊥) → IsTypedIn types typed
typed_in types rooted typed free = by typed.of refl
  where
    known : (of : Word) → typed.of ≡ Some of → (b : Bool) → is_among of.text types ≡ b → is_among of.text types ≡ true
    known of is true there = there
    known of is false absent = absurd (free (fault_at Unknown of) (of, is, is_absent of.text types absent, refl))

    by : (of : Option Word) → typed.of ≡ of → is_among (unwrap_or (option_map text_of of) root) types ≡ true
    by None is = rooted
    by (Some of) is = known of is (is_among of.text types) refl

-- an atom whose predicate has as many parameters as it has arguments, each of which is one of the names
pub record IsKnownAtom (arities : List ℕ → Option ℕ) (names : List (List ℕ)) (atom : AtomText) : Type 0 where
  pub head : arities atom.head.text ≡ Some (length atom.args)
  pub args : All (λ (word : Word). is_among word.text names ≡ true) atom.args

known_head : (o : Option ℕ) (atom : AtomText) → ((f : Fault) → IsHeadFault o f atom → ⊥) → o ≡ Some (length atom.args)
known_head None atom free = absurd (free (fault_at Unknown atom.head) refl)
known_head (Some arity) atom free = by (arity == length atom.args) refl
  where
    by : (b : Bool) → (arity == length atom.args) ≡ b → Some arity ≡ Some (length atom.args)
    by true is = let same : arity ≡ length atom.args = grind (arith, nat_tests) in ap Some same
    by false is = let other : arity ≢ length atom.args = λ same. grind (arith, nat_tests) in absurd (free (fault_at Arity atom.head) (other, refl))

known_name : (names : List (List ℕ)) (word : Word) → ((f : Fault) → IsUnknownName names f word → ⊥) → is_among word.text names ≡ true
known_name names word free = by (is_among word.text names) refl
  where
    by : (b : Bool) → is_among word.text names ≡ b → is_among word.text names ≡ true
    by true there = there
    by false absent = absurd (free (fault_at Unknown word) (is_absent word.text names absent, refl))

known_atom : (arities : List ℕ → Option ℕ) (names : List (List ℕ)) (atom : AtomText) → ((f : Fault) → IsAtomFault arities names f atom → ⊥) → IsKnownAtom arities names atom
known_atom arities names atom free = record {
  head = known_head (arities atom.head.text) atom (λ f has. free f (inl has));
  args = each_then (IsUnknownName names) (λ (word : Word). is_among word.text names ≡ true) atom.args (known_name names) (λ f some. free f (inr some));
}

known_atoms : (arities : List ℕ → Option ℕ) (names : List (List ℕ)) (atoms : List AtomText) → ((f : Fault) → Any (IsAtomFault arities names f) atoms → ⊥) → All (IsKnownAtom arities names) atoms
known_atoms arities names atoms free =
    each_then (IsAtomFault arities names) (IsKnownAtom arities names) atoms (known_atom arities names) free

typed_all : (types : List (List ℕ)) → is_among root types ≡ true → (items : List Typed) → ((f : Fault) → Any (IsUnknownType types f) items → ⊥) → All (IsTypedIn types) items
typed_all types rooted items free =
    each_then (IsUnknownType types) (IsTypedIn types) items (typed_in types rooted) free

-- an action without a fault
pub record IsSoundAction (types : List (List ℕ)) (arities : List ℕ → Option ℕ) (constants : List (List ℕ)) (action : ActionText) : Type 0 where
  pub apart : AreApart (names_of action.params)
  pub typed : All (IsTypedIn types) action.params
  pub pre : All (IsKnownAtom arities (names_of action.params ++ constants)) action.pre
  pub add : All (IsKnownAtom arities (names_of action.params ++ constants)) action.add
  pub del : All (IsKnownAtom arities (names_of action.params ++ constants)) action.del

sound_action : (types : List (List ℕ)) → is_among root types ≡ true → (arities : List ℕ → Option ℕ) (constants : List (List ℕ)) (action : ActionText) → ((f : Fault) → IsActionFault types arities constants f action → ⊥) → IsSoundAction types arities constants action
sound_action types rooted arities constants action free =
    record {
      apart = apart;
      typed = typed_all types rooted action.params (λ f some. free f (inr (inl some)));
      pre = known_atoms arities (names_of action.params ++ constants) action.pre (λ f some. atoms f (any_left (IsAtomFault arities (names_of action.params ++ constants) f) action.pre (action.add ++ action.del) some));
      add = known_atoms arities (names_of action.params ++ constants) action.add (λ f some. atoms f (any_right (IsAtomFault arities (names_of action.params ++ constants) f) action.pre (action.add ++ action.del) (any_left (IsAtomFault arities (names_of action.params ++ constants) f) action.add action.del some)));
      del = known_atoms arities (names_of action.params ++ constants) action.del (λ f some. atoms f (any_right (IsAtomFault arities (names_of action.params ++ constants) f) action.pre (action.add ++ action.del) (any_right (IsAtomFault arities (names_of action.params ++ constants) f) action.add action.del some)));
    }
  where
    apart : AreApart (names_of action.params)
    apart = all_apart (map word_of action.params) (λ f twice. free f (inl twice))

    atoms : (f : Fault) → Any (IsAtomFault arities (names_of action.params ++ constants) f) (action.pre ++ (action.add ++ action.del)) → ⊥
    atoms f some = free f (inr (inr some))

-- a word of `:types` whose parents reach `object`
abbrev pub IsUnder : List Typed → Typed → Type 0
IsUnder types typed = Reaches (types_of types) (number_of (type_names types) typed.word.text) 0

under_root : (types : List Typed) (number : ℕ) → number < length (types_of types) → ((Reaches (types_of types) number 0 → ⊥) → ⊥) → Reaches (types_of types) number 0
under_root types number within not_not = by (ancestor (types_of types) (length (types_of types)) number == 0) refl
  where
    by : (b : Bool) → (ancestor (types_of types) (length (types_of types)) number == 0) ≡ b → Reaches (types_of types) number 0
    by true is = Reaches-from_steps (types_of types) (length (types_of types)) number 0 (parents_are_types types) within (grind (arith, nat_tests))
    by false is = absurd (not_not (λ reaches.
        let up = steps_from_Reaches reaches in
        let soon : ancestor (types_of types) (length (types_of types)) number ≡ 0 = reaches_soon (types_of types) (root_parent_zero types) (low_parents (types_of types) (parents_are_types types)) number up.0 (length (types_of types)) within (omega arith) up.1 in
        grind (arith, nat_tests)))

all_under : (types : List Typed) → ((f : Fault) → Any (IsTypeCycle types f) types → ⊥) → All (IsUnder types) types
all_under types free = λ k d less.
    let is : get_or types k d ≡ get_or types k (get_or types k d) = get_or_default types k d (get_or types k d) less in
    let low = number_there (type_names types) (get_or types k d).word.text (word_there types k (get_or types k d) less is) in
    let long : length (types_of types) ≡ length (type_names types) = length-map (type_names types) (entry_of types) in
    under_root types (number_of (type_names types) (get_or types k d).word.text) (omega (arith, low, long))
    (λ not. each_faultless (IsTypeCycle types) types free k d less (fault_at TypeCycle (get_or types k d).word) (inl not, refl))

-- a domain without a fault
pub record IsSoundDomain (domain : DomainText) : Type 0 where
  pub types : AreApart (names_of domain.types)
  pub constants : AreApart (names_of domain.constants)
  pub heads : AreApart (heads_of domain.predicates)
  pub actions : AreApart (map text_of (map action_word domain.actions))
  pub under : All (IsUnder domain.types) domain.types
  pub typed : All (IsTypedIn (type_names domain.types)) domain.constants
  pub each : All (IsSoundAction (type_names domain.types) (arity_named domain.predicates) (names_of domain.constants)) domain.actions

pub sound_domain : (domain : DomainText) → IsFirst (IsDomainFault domain) None → IsSoundDomain domain
sound_domain domain free = record {
  types = all_apart (map word_of domain.types) (λ f has. free f (type_twice has));
  constants = constants;
  heads = all_apart (map head_of domain.predicates) (λ f has. free f (predicate_twice has));
  actions = all_apart (map action_word domain.actions) (λ f has. free f (action_twice has));
  under = all_under domain.types (λ f has. free f (type_astray has));
  typed = typed_all (type_names domain.types) (root_there domain.types) domain.constants (λ f has. free f (of_constant has));
  each = each_then (IsActionFault (type_names domain.types) (arity_named domain.predicates) (names_of domain.constants)) (IsSoundAction (type_names domain.types) (arity_named domain.predicates) (names_of domain.constants)) domain.actions
      (sound_action (type_names domain.types) (root_there domain.types) (arity_named domain.predicates) (names_of domain.constants))
      (λ f has. free f (of_action has));
}
  where
    constants : AreApart (names_of domain.constants)
    constants = all_apart (map word_of domain.constants) (λ f has. free f (constant_twice has))

-- the names of two typed lists, one after the other
pub names_joined : (one other : List Typed) → names_of (one ++ other) ≡ names_of one ++ names_of other
names_joined one other = ap (map text_of) (map-append word_of one other) ∙ map-append text_of (map word_of one) (map word_of other)

-- the names that the atoms of a problem may have
abbrev names_over : DomainText → ProblemText → List (List ℕ)
names_over domain problem = names_of domain.constants ++ names_of problem.objects

-- a problem without a fault, over a domain without one
pub record IsSoundProblem (domain : DomainText) (problem : ProblemText) : Type 0 where
  pub objects : AreApart (names_of (domain.constants ++ problem.objects))
  pub typed : All (IsTypedIn (type_names domain.types)) problem.objects
  pub init : All (IsKnownAtom (arity_named domain.predicates) (names_of (domain.constants ++ problem.objects))) problem.init
  pub goal : All (IsKnownAtom (arity_named domain.predicates) (names_of (domain.constants ++ problem.objects))) problem.goal

pub sound_problem : (domain : DomainText) (problem : ProblemText) → IsFirst (IsDomainFault domain) None → IsFirst (IsProblemFault domain problem) None → IsSoundProblem domain problem
sound_problem domain problem domain_no free = record {
  objects = rw (names_joined domain.constants problem.objects) both;
  typed = typed_all (type_names domain.types) (root_there domain.types) problem.objects (λ f has. free f (of_object has));
  init = rw (names_joined domain.constants problem.objects) (known_atoms (arity_named domain.predicates) (names_over domain problem) problem.init (λ f some. atoms f (any_left (IsAtomFault (arity_named domain.predicates) (names_over domain problem) f) problem.init problem.goal some)));
  goal = rw (names_joined domain.constants problem.objects) (known_atoms (arity_named domain.predicates) (names_over domain problem) problem.goal (λ f some. atoms f (any_right (IsAtomFault (arity_named domain.predicates) (names_over domain problem) f) problem.init problem.goal some)));
}
  where
    constants : AreApart (names_of domain.constants)
    constants = (sound_domain domain domain_no).constants

    both : AreApart (names_of domain.constants ++ names_of problem.objects)
    both = words_apart (names_of domain.constants) (map word_of problem.objects) constants (λ f has. free f (object_twice has))

    atoms : (f : Fault) → Any (IsAtomFault (arity_named domain.predicates) (names_over domain problem) f) (problem.init ++ problem.goal) → ⊥
    atoms f some = free f (of_atom some)
