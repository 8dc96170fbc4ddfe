-- The texts of a family fit: their names differ, and every name is known.
use Rattle.std.proofs.Common.{◌≡◌, ◌≢◌, ℕ, ◌+◌, ◌-◌, ◌^◌, ◌<◌, ◌≤◌, true, List, [], ◌∷◌, map, get_or, drop, length, Option, Some, refl, sym, ap, subst, arith}
use Rattle.std.specs.Prelude.{All, codes}
use Rattle.std.specs.List.{range_with_len}
use Rattle.std.proofs.lemmas.Fmt.{decimal_injective}
use Rattle.std.proofs.lemmas.List.Elements.{All-cons, All-map, All-append}
use Rattle.pddl_forms.specs.declared.texts.Word.{Word}
use Rattle.pddl_forms.specs.declared.texts.AtomText.{AtomText}
use Rattle.pddl_parser.specs.declared.texts.PredText.{PredText}
use Rattle.pddl_task.specs.Names.{is_among}
use Rattle.pddl_task.specs.Types.{names_of}
use Rattle.pddl_task.specs.Faults.{arity_named}
use Rattle.pddl_task.specs.Inner.Names.{AreApart}
use Rattle.pddl_task.proofs.Among.{is_found}
use Rattle.pddl_task.proofs.Faultless.{IsKnownAtom}
use Rattle.family_gen.specs.declared.kinds.Family.{Family}
use Rattle.family_gen.specs.declared.kinds.Family.TheVariants.{Lights, Corridor}
use Rattle.family_gen.specs.Domains.{word, untyped, atom, lights_domain, corridor_domain, domain_of}
use Rattle.family_gen.specs.Problems.{lamp, cell, lit, at, next, lights_problem, corridor_problem, problem_of}
use Rattle.family_gen.proofs.Lists.{all_one, all_two, apart_one, apart_two, all_numbered, contains_numbered, apart_numbered}
use Rattle.family_gen.proofs.Faultless.{IsOfRoot, IsFitAction, IsFitDomain, IsFitProblem}

-- words without types
untyped_of_root : (names : List (List ℕ)) → All IsOfRoot (map untyped names)
untyped_of_root names = All-map IsOfRoot untyped names (λ k d less. refl)

untyped_names : (names : List (List ℕ)) → names_of (map untyped names) ≡ names
untyped_names [] = refl
untyped_names (name ∷ names) = ap (λ l. name ∷ l) (untyped_names names)

-- an atom of names that are known
known_atom : (arities : List ℕ → Option ℕ) (names : List (List ℕ)) (head : List ℕ) (args : List (List ℕ)) → arities head ≡ Some (length (map word args)) → All (λ arg. is_among arg names ≡ true) args → IsKnownAtom arities names (atom head args)
known_atom arities names head args has each = record { head = has; args = All-map (λ (w : Word). is_among w.text names ≡ true) word args each }

-- ---- domains

x_differs : codes "?x" ≢ codes "?y"
x_differs same = let no : 120 ≡ 121 = ap (λ l. get_or l 1 0) same in absurd (omega (arith, no))

at_differs : codes "at" ≢ codes "next"
at_differs same = let no : 97 ≡ 110 = ap (λ l. get_or l 0 0) same in absurd (omega (arith, no))

lights_fit : IsFitDomain lights_domain
lights_fit = record {
  types = refl;
  constants = refl;
  heads = apart_one (codes "lit");
  actions = apart_one (codes "light");
  untyped = all_one (λ (p : PredText). All IsOfRoot p.params) _ (untyped_of_root (codes "?x" ∷ []));
  each = all_one (IsFitAction (arity_named lights_domain.predicates)) _ (record {
    apart = apart_one (codes "?x");
    untyped = untyped_of_root (codes "?x" ∷ []);
    known = all_one (IsKnownAtom (arity_named lights_domain.predicates) (codes "?x" ∷ [])) _
        (known_atom (arity_named lights_domain.predicates) (codes "?x" ∷ []) (codes "lit") (codes "?x" ∷ []) refl (all_one (λ arg. is_among arg (codes "?x" ∷ []) ≡ true) (codes "?x") refl));
  });
}

-- the names of the parameters of a step
abbrev step_names : List (List ℕ)
step_names = codes "?x" ∷ codes "?y" ∷ []

abbrev IsKnownInStep : AtomText → Type 0
IsKnownInStep = IsKnownAtom (arity_named corridor_domain.predicates) step_names

at_known : (name : List ℕ) → is_among name step_names ≡ true → IsKnownInStep (atom (codes "at") (name ∷ []))
at_known name among = known_atom (arity_named corridor_domain.predicates) step_names (codes "at") (name ∷ []) refl (all_one (λ arg. is_among arg step_names ≡ true) name among)

next_known : IsKnownInStep (atom (codes "next") step_names)
next_known = known_atom (arity_named corridor_domain.predicates) step_names (codes "next") step_names refl (all_two (λ arg. is_among arg step_names ≡ true) (codes "?x") (codes "?y") refl refl)

corridor_fit : IsFitDomain corridor_domain
corridor_fit = record {
  types = refl;
  constants = refl;
  heads = apart_two (codes "at") (codes "next") at_differs;
  actions = apart_one (codes "move");
  untyped = all_two (λ (p : PredText). All IsOfRoot p.params) _ _ (untyped_of_root (codes "?c" ∷ [])) (untyped_of_root step_names);
  each = all_one (IsFitAction (arity_named corridor_domain.predicates)) _ (record {
    apart = apart_two (codes "?x") (codes "?y") x_differs;
    untyped = untyped_of_root step_names;
    known = All-append IsKnownInStep (atom (codes "at") (codes "?x" ∷ []) ∷ atom (codes "next") step_names ∷ []) (atom (codes "at") (codes "?y" ∷ []) ∷ atom (codes "at") (codes "?x" ∷ []) ∷ [])
        (all_two IsKnownInStep _ _ (at_known (codes "?x") refl) next_known)
        (all_two IsKnownInStep _ _ (at_known (codes "?y") refl) (at_known (codes "?x") refl));
  });
}

pub domain_fits : (family : Family) → IsFitDomain (domain_of family)
domain_fits Lights = lights_fit
domain_fits Corridor = corridor_fit

-- ---- problems

lamps_differ : (i j : ℕ) → i < j → j < 2 ^ 64 → lamp i ≢ lamp j
lamps_differ i j less few same =
    let one : i ≡ j = decimal_injective i j (omega arith) few (ap (drop 1) same) in
    absurd (omega (arith, less, one))

cells_differ : (i j : ℕ) → i < j → j < 2 ^ 64 → cell i ≢ cell j
cells_differ i j less few same =
    let one : i ≡ j = decimal_injective i j (omega arith) few (ap (drop 1) same) in
    absurd (omega (arith, less, one))

-- so many objects that are numbered, and their names as a text of a problem has them
abbrev objects : (ℕ → List ℕ) → ℕ → List (List ℕ)
objects object size = map object (range_with_len 0 size)

abbrev names_over : (ℕ → List ℕ) → ℕ → List (List ℕ)
names_over object size = names_of (map untyped (objects object size))

module _ (object : ℕ → List ℕ) (size : ℕ) where
  is_object : (k : ℕ) → k < size → is_among (object k) (names_over object size) ≡ true
  is_object k less = subst (λ l. is_among (object k) l ≡ true) (sym (untyped_names (objects object size))) (is_found (object k) (objects object size) (contains_numbered object size k less))

  objects_apart : ((i j : ℕ) → i < j → j < size → object i ≢ object j) → AreApart (names_over object size)
  objects_apart differ = subst AreApart (sym (untyped_names (objects object size))) (apart_numbered object size differ)

-- an atom of rows of so many lamps, or of a corridor of so many cells
abbrev IsKnownInRow : ℕ → AtomText → Type 0
IsKnownInRow size = IsKnownAtom (arity_named lights_domain.predicates) (names_over lamp size)

abbrev IsKnownInCorridor : ℕ → AtomText → Type 0
IsKnownInCorridor size = IsKnownAtom (arity_named corridor_domain.predicates) (names_over cell size)

lit_fits : (size k : ℕ) → k < size → IsKnownInRow size (lit k)
lit_fits size k less =
    known_atom (arity_named lights_domain.predicates) (names_over lamp size) (codes "lit") (lamp k ∷ []) refl (all_one (λ arg. is_among arg (names_over lamp size) ≡ true) (lamp k) (is_object lamp size k less))

at_fits : (size k : ℕ) → k < size → IsKnownInCorridor size (at k)
at_fits size k less =
    known_atom (arity_named corridor_domain.predicates) (names_over cell size) (codes "at") (cell k ∷ []) refl (all_one (λ arg. is_among arg (names_over cell size) ≡ true) (cell k) (is_object cell size k less))

next_fits : (size k : ℕ) → k < size - 1 → IsKnownInCorridor size (next k)
next_fits size k less =
    known_atom (arity_named corridor_domain.predicates) (names_over cell size) (codes "next") (cell k ∷ cell (k + 1) ∷ []) refl
    (all_two (λ arg. is_among arg (names_over cell size) ≡ true) (cell k) (cell (k + 1)) (is_object cell size k (omega (arith, less))) (is_object cell size (k + 1) (omega (arith, less))))

lights_problem_fits : (size : ℕ) → size ≤ 256 → IsFitProblem lights_domain (lights_problem size)
lights_problem_fits size few = record {
  objects = objects_apart lamp size (λ i j less below. lamps_differ i j less (omega (arith, few, below)));
  untyped = untyped_of_root (objects lamp size);
  known = all_numbered (IsKnownInRow size) lit size (lit_fits size);
  domain_named = refl;
}

corridor_problem_fits : (size : ℕ) → 0 < size → size ≤ 256 → IsFitProblem corridor_domain (corridor_problem size)
corridor_problem_fits size some few = record {
  objects = objects_apart cell size (λ i j less below. cells_differ i j less (omega (arith, few, below)));
  untyped = untyped_of_root (objects cell size);
  known = All-append (IsKnownInCorridor size) (corridor_problem size).init (corridor_problem size).goal
      (All-cons (IsKnownInCorridor size) (at 0) (map next (range_with_len 0 (size - 1))) (at_fits size 0 some) (all_numbered (IsKnownInCorridor size) next (size - 1) (next_fits size)))
      (all_one (IsKnownInCorridor size) (at (size - 1)) (at_fits size (size - 1) (omega (arith, some))));
  domain_named = refl;
}

pub problem_fits : (family : Family) (size : ℕ) → 0 < size → size ≤ 256 → IsFitProblem (domain_of family) (problem_of family size)
problem_fits Lights size some few = lights_problem_fits size few
problem_fits Corridor size some few = corridor_problem_fits size some few
