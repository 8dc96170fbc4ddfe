-- Texts over no types that have no fault: what of their words is enough for it.
use Rattle.std.proofs.Common.{◌≡◌, ℕ, ◌+◌, ◌<◌, true, List, [], ◌∷◌, ◌++◌, map, length, take, get_or, Option, Some, None, option_map, unwrap_or, refl, sym, ap, ◌∙◌, subst, inl, inr, arith, append-nil}
use Rattle.std.specs.Prelude.{All, Any}
use Rattle.std.specs.List.{take-map}
use Rattle.std.proofs.lemmas.List.{get_or-take, get_or-map, length-map, length-take-le}
use Rattle.std.proofs.lemmas.Option.{slice_get_within, get_or_from_slice_get}
use Rattle.pddl_forms.specs.declared.texts.Word.{Word}
use Rattle.pddl_forms.specs.declared.texts.Typed.{Typed}
use Rattle.pddl_forms.specs.declared.texts.AtomText.{AtomText}
use Rattle.pddl_parser.specs.declared.texts.PredText.{PredText}
use Rattle.pddl_parser.specs.declared.texts.ActionText.{ActionText}
use Rattle.pddl_parser.specs.declared.texts.DomainText.{DomainText}
use Rattle.pddl_parser.specs.declared.texts.ProblemText.{ProblemText}
use Rattle.pddl_printer.specs.Alike.{AlikeWord, AlikeTyped, AlikeAtom, AlikePredicate, AlikeAction, AlikeDomain, AlikeProblem, AreAlike}
use Rattle.pddl_task.specs.Names.{is_among}
use Rattle.pddl_task.specs.Types.{root, text_of, word_of, names_of, type_of, type_names}
use Rattle.pddl_task.specs.Faults.{head_of, action_word, arity_named, IsFirst, IsTwice, IsUnknownType, IsUnknownParameter, IsUnknownName, IsHeadFault, IsAtomFault, IsActionFault, IsTypeCycle, IsDomainFault, type_twice, constant_twice, predicate_twice, action_twice, type_astray, of_constant, of_predicate, of_action, IsProblemFault, object_twice, of_object, of_atom, other_domain}
use Rattle.pddl_task.specs.Parts.{heads_of}
use Rattle.pddl_task.specs.Inner.Names.{AreApart}
use Rattle.pddl_task.proofs.Among.{is_there}
use Rattle.pddl_task.proofs.Anys.{any_none}
use Rattle.pddl_task.proofs.Faultless.{IsKnownAtom}
use Rattle.family_gen.proofs.Lists.{none_has}
use Rattle.family_gen.proofs.Alike.{alike_all, alike_length, alike_nothing, alike_append, alike_type, alike_names, alike_heads, alike_actions, alike_arity}

-- words that differ, of which none stands again
no_twice : (words : List Word) → AreApart (map text_of words) → IsFirst (IsTwice [] words) None
no_twice words apart f (k, word, at, (i, less, is), told) =
    let text = word.text in
    let within : k < length words = slice_get_within words k word at in
    let front : map text_of (take k words) ≡ take k (map text_of words) = sym (take-map text_of k words) in
    let below : i < k = omega (arith, less, length-map (take k words) text_of, length-take-le k words (omega (arith, within))) in
    let one : get_or (map text_of words) i text ≡ text = sym (get_or-take k (map text_of words) i text below) ∙ ap (λ l. get_or l i text) (sym front) ∙ is in
    let other : get_or (map text_of words) k text ≡ text = get_or-map text_of words k word text within ∙ ap text_of (get_or_from_slice_get words k word word at) in
    apart i k text below (omega (arith, within, length-map words text_of)) (one ∙ sym other)

-- a word of a typed list whose type is `object`
abbrev pub IsOfRoot : Typed → Type 0
IsOfRoot typed = type_of typed ≡ root

no_unknown_type : (typed : Typed) → IsOfRoot typed → IsFirst (λ f. IsUnknownType (root ∷ []) f typed) None
no_unknown_type typed is f (of, given, absent, told) =
    let same : type_of typed ≡ of.text = ap (λ o. unwrap_or (option_map text_of o) root) given in
    absent (0, omega arith, sym is ∙ same)

no_atom_fault : (arities : List ℕ → Option ℕ) (names : List (List ℕ)) (atom : AtomText) → IsKnownAtom arities names atom → IsFirst (λ f. IsAtomFault arities names f atom) None
no_atom_fault arities names atom known f (inl head) =
    let other : IsHeadFault (Some (length atom.args)) f atom = subst (λ o. IsHeadFault o f atom) known.head head in
    other.0 refl
no_atom_fault arities names atom known f (inr some) =
    none_has (λ (word : Word). is_among word.text names ≡ true) (IsUnknownName names f) atom.args (λ word among unknown. unknown.0 (is_there word.text names among)) known.args some

-- an action whose parameters differ and have no types, and whose atoms are of them
pub record IsFitAction (arities : List ℕ → Option ℕ) (action : ActionText) : Type 0 where
  pub apart : AreApart (names_of action.params)
  pub untyped : All IsOfRoot action.params
  pub known : All (IsKnownAtom arities (names_of action.params)) (action.pre ++ (action.add ++ action.del))

no_action_fault : (arities : List ℕ → Option ℕ) (action : ActionText) → IsFitAction arities action → IsFirst (λ f. IsActionFault (root ∷ []) arities [] f action) None
no_action_fault arities action fit f (inl twice) = no_twice (map word_of action.params) fit.apart f twice
no_action_fault arities action fit f (inr (inl some)) = none_has IsOfRoot (IsUnknownType (root ∷ []) f) action.params (λ typed is. no_unknown_type typed is f) fit.untyped some
no_action_fault arities action fit f (inr (inr some)) =
    none_has (IsKnownAtom arities (names_of action.params)) (IsAtomFault arities (names_of action.params) f) (action.pre ++ (action.add ++ action.del)) (λ atom known. no_atom_fault arities (names_of action.params) atom known f) fit.known
    (subst (λ names. Any (IsAtomFault arities names f) (action.pre ++ (action.add ++ action.del))) (append-nil (names_of action.params)) some)

-- a domain without types and constants whose names differ and whose actions fit
pub record IsFitDomain (domain : DomainText) : Type 0 where
  pub types : domain.types ≡ []
  pub constants : domain.constants ≡ []
  pub heads : AreApart (heads_of domain.predicates)
  pub actions : AreApart (map text_of (map action_word domain.actions))
  pub untyped : All (λ (predicate : PredText). All IsOfRoot predicate.params) domain.predicates
  pub each : All (IsFitAction (arity_named domain.predicates)) domain.actions

no_words : IsFirst (IsTwice [] []) None
no_words f has = no_twice [] (λ i j d less within. absurd (omega (arith, less, within))) f has

pub faultless_domain : (domain : DomainText) → IsFitDomain domain → IsFirst (IsDomainFault domain) None
faultless_domain domain fit f (type_twice has) = no_words f (subst (λ l. IsTwice [] (map word_of l) f) fit.types has)
faultless_domain domain fit f (constant_twice has) = no_words f (subst (λ l. IsTwice [] (map word_of l) f) fit.constants has)
faultless_domain domain fit f (predicate_twice has) = no_twice (map head_of domain.predicates) fit.heads f has
faultless_domain domain fit f (action_twice has) = no_twice (map action_word domain.actions) fit.actions f has
faultless_domain domain fit f (type_astray some) = any_none (IsTypeCycle domain.types f) (subst (Any (IsTypeCycle domain.types f)) fit.types some)
faultless_domain domain fit f (of_constant some) = any_none (IsUnknownType (type_names domain.types) f) (subst (Any (IsUnknownType (type_names domain.types) f)) fit.constants some)
faultless_domain domain fit f (of_predicate some) =
    none_has (λ (predicate : PredText). All IsOfRoot predicate.params) (IsUnknownParameter (root ∷ []) f) domain.predicates
    (λ predicate untyped unknown. none_has IsOfRoot (IsUnknownType (root ∷ []) f) predicate.params (λ typed is. no_unknown_type typed is f) untyped unknown)
    fit.untyped
    (subst (λ l. Any (IsUnknownParameter (type_names l) f) domain.predicates) fit.types some)
faultless_domain domain fit f (of_action some) =
    none_has (IsFitAction (arity_named domain.predicates)) (IsActionFault (root ∷ []) (arity_named domain.predicates) [] f) domain.actions
    (λ action fits. no_action_fault (arity_named domain.predicates) action fits f)
    fit.each
    (subst (λ l. Any (IsActionFault (root ∷ []) (arity_named domain.predicates) (names_of l) f) domain.actions) fit.constants
    (subst (λ l. Any (IsActionFault (type_names l) (arity_named domain.predicates) (names_of domain.constants) f) domain.actions) fit.types some))

-- a problem over such a domain, whose objects differ and have no types, and whose atoms are of them
pub record IsFitProblem (domain : DomainText) (problem : ProblemText) : Type 0 where
  pub objects : AreApart (names_of problem.objects)
  pub untyped : All IsOfRoot problem.objects
  pub known : All (IsKnownAtom (arity_named domain.predicates) (names_of problem.objects)) (problem.init ++ problem.goal)
  pub domain_named : problem.domain.text ≡ domain.name.text

pub faultless_problem : (domain : DomainText) (problem : ProblemText) → IsFitDomain domain → IsFitProblem domain problem → IsFirst (IsProblemFault domain problem) None
faultless_problem domain problem fit fits f (object_twice has) =
    no_twice (map word_of problem.objects) fits.objects f (subst (λ l. IsTwice (names_of l) (map word_of problem.objects) f) fit.constants has)
faultless_problem domain problem fit fits f (of_object some) =
    none_has IsOfRoot (IsUnknownType (root ∷ []) f) problem.objects (λ typed is. no_unknown_type typed is f) fits.untyped
    (subst (λ l. Any (IsUnknownType (type_names l) f) problem.objects) fit.types some)
faultless_problem domain problem fit fits f (of_atom some) =
    none_has (IsKnownAtom (arity_named domain.predicates) (names_of problem.objects)) (IsAtomFault (arity_named domain.predicates) (names_of problem.objects) f) (problem.init ++ problem.goal)
    (λ atom known. no_atom_fault (arity_named domain.predicates) (names_of problem.objects) atom known f)
    fits.known
    (subst (λ l. Any (IsAtomFault (arity_named domain.predicates) (names_of l ++ names_of problem.objects) f) (problem.init ++ problem.goal)) fit.constants some)
faultless_problem domain problem fit fits f (other_domain differs told) = differs fits.domain_named

-- ---- what says the same as a text that fits does so too

alike_untyped : (xs ys : List Typed) → AreAlike AlikeTyped xs ys → All IsOfRoot xs → All IsOfRoot ys
alike_untyped = alike_all AlikeTyped IsOfRoot IsOfRoot (λ x y alike is. sym (alike_type x y alike) ∙ is)

module _ (arities others : List ℕ → Option ℕ) (same : (name : List ℕ) → arities name ≡ others name) where
  alike_known : (names known : List (List ℕ)) → names ≡ known → (x y : AtomText) → AlikeAtom x y → IsKnownAtom arities names x → IsKnownAtom others known y
  alike_known names known are x y alike fit = record {
    head = sym (same y.head.text) ∙ ap arities (sym alike.head) ∙ fit.head ∙ ap Some (alike_length AlikeWord x.args y.args alike.args);
    args = alike_all AlikeWord (λ (word : Word). is_among word.text names ≡ true) (λ (word : Word). is_among word.text known ≡ true)
        (λ v w text among. subst (λ l. is_among w.text l ≡ true) are (subst (λ l. is_among l names ≡ true) text among)) x.args y.args alike.args fit.args;
  }

  alike_fit_action : (x y : ActionText) → AlikeAction x y → IsFitAction arities x → IsFitAction others y
  alike_fit_action x y alike fit = record {
    apart = subst AreApart (alike_names x.params y.params alike.params) fit.apart;
    untyped = alike_untyped x.params y.params alike.params fit.untyped;
    known = alike_all AlikeAtom (IsKnownAtom arities (names_of x.params)) (IsKnownAtom others (names_of y.params))
        (alike_known (names_of x.params) (names_of y.params) (alike_names x.params y.params alike.params))
        (x.pre ++ (x.add ++ x.del)) (y.pre ++ (y.add ++ y.del))
        (alike_append AlikeAtom x.pre y.pre (x.add ++ x.del) (y.add ++ y.del) alike.pre (alike_append AlikeAtom x.add y.add x.del y.del alike.add alike.del))
        fit.known;
  }

pub alike_fit_domain : (one other : DomainText) → AlikeDomain one other → IsFitDomain one → IsFitDomain other
alike_fit_domain one other alike fit = record {
  types = alike_nothing AlikeTyped one.types other.types fit.types alike.types;
  constants = alike_nothing AlikeTyped one.constants other.constants fit.constants alike.constants;
  heads = subst AreApart (alike_heads one.predicates other.predicates alike.predicates) fit.heads;
  actions = subst AreApart (alike_actions one.actions other.actions alike.actions) fit.actions;
  untyped = alike_all AlikePredicate (λ (p : PredText). All IsOfRoot p.params) (λ (p : PredText). All IsOfRoot p.params) (λ x y like untyped. alike_untyped x.params y.params like.params untyped) one.predicates other.predicates alike.predicates fit.untyped;
  each = alike_all AlikeAction (IsFitAction (arity_named one.predicates)) (IsFitAction (arity_named other.predicates))
      (alike_fit_action (arity_named one.predicates) (arity_named other.predicates) (λ name. alike_arity name one.predicates other.predicates alike.predicates))
      one.actions other.actions alike.actions fit.each;
}

pub alike_fit_problem : (one other : DomainText) (problem text : ProblemText) → AlikeDomain one other → AlikeProblem problem text → IsFitProblem one problem → IsFitProblem other text
alike_fit_problem one other problem text alike like fit = record {
  objects = subst AreApart (alike_names problem.objects text.objects like.objects) fit.objects;
  untyped = alike_untyped problem.objects text.objects like.objects fit.untyped;
  known = alike_all AlikeAtom (IsKnownAtom (arity_named one.predicates) (names_of problem.objects)) (IsKnownAtom (arity_named other.predicates) (names_of text.objects))
      (alike_known (arity_named one.predicates) (arity_named other.predicates) (λ name. alike_arity name one.predicates other.predicates alike.predicates) (names_of problem.objects) (names_of text.objects) (alike_names problem.objects text.objects like.objects))
      (problem.init ++ problem.goal) (text.init ++ text.goal) (alike_append AlikeAtom problem.init text.init problem.goal text.goal like.init like.goal)
      fit.known;
  domain_named = sym like.domain ∙ fit.domain_named ∙ alike.name;
}
