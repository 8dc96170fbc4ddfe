-- The words of a family's texts are spelled as names and as variables.
use Rattle.std.proofs.Common.{◌≡◌, ℕ, ◌+◌, ◌-◌, ◌%◌, ◌^◌, ◌<◌, ◌≤◌, Bool, true, ◌&&◌, ◌||◌, ◌==◌, List, [], ◌∷◌, map, refl, ◌∙◌, inr, arith}
use Rattle.std.specs.Prelude.{All, codes, decimal}
use Rattle.std.specs.List.{list_all, range_with_len}
use Rattle.std.proofs.lemmas.Bool.{and_from}
use Rattle.std.proofs.lemmas.Bool.Decides.{nat_tests}
use Rattle.std.proofs.lemmas.Fmt.{decimal_by_steps}
use Rattle.std.proofs.lemmas.List.Elements.{All-nil, All-cons, All-map}
use Rattle.std.proofs.lemmas.List.Folds.{list_all-append}
use Rattle.flag_rules.specs.Name.{IsName, is_digit, is_small}
use Rattle.pddl_forms.specs.declared.texts.Word.{Word}
use Rattle.pddl_forms.specs.declared.texts.AtomText.{AtomText}
use Rattle.pddl_parser.specs.Spelled.{IsVariable, IsTermText, IsTypedSpelled, IsHeadText, IsPredicateSpelled, IsAtomSpelled, IsActionSpelled, IsDomainSpelled, IsProblemSpelled}
use Rattle.family_gen.specs.declared.kinds.Family.{Family}
use Rattle.family_gen.specs.declared.kinds.Family.TheVariants.{Lights, Corridor}
use Rattle.family_gen.specs.Domains.{word, untyped, atom, predicate, lights_domain, corridor_domain, domain_of}
use Rattle.family_gen.specs.Problems.{lamp, cell, lit, at, next, lights_problem, corridor_problem, problem_of}
use Rattle.family_gen.proofs.Lists.{all_one, all_two, all_numbered}

-- ---- names

-- a byte that stands in a name
abbrev stands_in_name : ℕ → Bool
stands_in_name b = is_small b || is_digit b || b == 45 || b == 95

digit_stands : (d : ℕ) → d < 10 → stands_in_name (48 + d) ≡ true
digit_stands d less = grind (arith, nat_tests)

digits_stand : (n : ℕ) → n < 2 ^ 64 → list_all stands_in_name (decimal n) ≡ true
digits_stand = decimal_by_steps (λ n ds. list_all stands_in_name ds ≡ true)
    (λ n less. and_from (stands_in_name (48 + n)) true (digit_stands n less) refl)
    (λ n ds less are. list_all-append stands_in_name ds ((48 + n % 10) ∷ [])
    ∙ and_from (list_all stands_in_name ds) (stands_in_name (48 + n % 10) && true) are (and_from (stands_in_name (48 + n % 10)) true (digit_stands (n % 10) (omega arith)) refl))

lamp_named : (number : ℕ) → number ≤ 256 → IsName (lamp number)
lamp_named number few = digits_stand number (omega arith)

cell_named : (number : ℕ) → number ≤ 256 → IsName (cell number)
cell_named number few = digits_stand number (omega arith)

-- ---- pieces

module _ (IsArgument : List ℕ → Type 0) where
  atom_spelled : (head : List ℕ) (args : List (List ℕ)) → IsHeadText head → All IsArgument args → IsAtomSpelled IsArgument (atom head args)
  atom_spelled head args is each = record { head = is; args = All-map (λ (w : Word). IsArgument w.text) word args each }

  untyped_spelled : (names : List (List ℕ)) → All IsArgument names → All (IsTypedSpelled IsArgument) (map untyped names)
  untyped_spelled names each = All-map (IsTypedSpelled IsArgument) untyped names (λ k d less. record { own = each k d less; of = tt })

predicate_spelled : (head : List ℕ) (params : List (List ℕ)) → IsHeadText head → All IsVariable params → IsPredicateSpelled (predicate head params)
predicate_spelled head params is each = record { head = is; params = untyped_spelled IsVariable params each }

-- ---- domains

x_variable : IsVariable (codes "?x")
x_variable = (refl, refl)

y_variable : IsVariable (codes "?y")
y_variable = (refl, refl)

of_x : All IsVariable (codes "?x" ∷ [])
of_x = all_one IsVariable (codes "?x") x_variable

of_x_and_y : All IsVariable (codes "?x" ∷ codes "?y" ∷ [])
of_x_and_y = all_two IsVariable (codes "?x") (codes "?y") x_variable y_variable

lifted_of_x : All IsTermText (codes "?x" ∷ [])
lifted_of_x = all_one IsTermText (codes "?x") (inr x_variable)

lifted_of_y : All IsTermText (codes "?y" ∷ [])
lifted_of_y = all_one IsTermText (codes "?y") (inr y_variable)

lifted_of_x_and_y : All IsTermText (codes "?x" ∷ codes "?y" ∷ [])
lifted_of_x_and_y = all_two IsTermText (codes "?x") (codes "?y") (inr x_variable) (inr y_variable)

lit_heads : IsHeadText (codes "lit")
lit_heads = record { own = refl; free = refl }

at_heads : IsHeadText (codes "at")
at_heads = record { own = refl; free = refl }

next_heads : IsHeadText (codes "next")
next_heads = record { own = refl; free = refl }

abbrev IsLifted : AtomText → Type 0
IsLifted = IsAtomSpelled IsTermText

lit_of_x : IsLifted (atom (codes "lit") (codes "?x" ∷ []))
lit_of_x = atom_spelled IsTermText (codes "lit") (codes "?x" ∷ []) lit_heads lifted_of_x

at_x : IsLifted (atom (codes "at") (codes "?x" ∷ []))
at_x = atom_spelled IsTermText (codes "at") (codes "?x" ∷ []) at_heads lifted_of_x

at_y : IsLifted (atom (codes "at") (codes "?y" ∷ []))
at_y = atom_spelled IsTermText (codes "at") (codes "?y" ∷ []) at_heads lifted_of_y

next_of_x_and_y : IsLifted (atom (codes "next") (codes "?x" ∷ codes "?y" ∷ []))
next_of_x_and_y = atom_spelled IsTermText (codes "next") (codes "?x" ∷ codes "?y" ∷ []) next_heads lifted_of_x_and_y

lights_domain_spelled : IsDomainSpelled lights_domain
lights_domain_spelled = record {
  own = refl;
  requirements = All-nil _;
  types = All-nil _;
  constants = All-nil _;
  predicates = all_one IsPredicateSpelled _ (predicate_spelled (codes "lit") (codes "?x" ∷ []) lit_heads of_x);
  actions = all_one IsActionSpelled _ (record {
    own = refl;
    params = untyped_spelled IsVariable (codes "?x" ∷ []) of_x;
    pre = All-nil _;
    add = all_one IsLifted _ lit_of_x;
    del = All-nil _;
  });
}

corridor_domain_spelled : IsDomainSpelled corridor_domain
corridor_domain_spelled = record {
  own = refl;
  requirements = All-nil _;
  types = All-nil _;
  constants = All-nil _;
  predicates = all_two IsPredicateSpelled _ _
      (predicate_spelled (codes "at") (codes "?c" ∷ []) at_heads (all_one IsVariable (codes "?c") (refl, refl)))
      (predicate_spelled (codes "next") (codes "?x" ∷ codes "?y" ∷ []) next_heads of_x_and_y);
  actions = all_one IsActionSpelled _ (record {
    own = refl;
    params = untyped_spelled IsVariable (codes "?x" ∷ codes "?y" ∷ []) of_x_and_y;
    pre = all_two IsLifted _ _ at_x next_of_x_and_y;
    add = all_one IsLifted _ at_y;
    del = all_one IsLifted _ at_x;
  });
}

pub domain_spelled : (family : Family) → IsDomainSpelled (domain_of family)
domain_spelled Lights = lights_domain_spelled
domain_spelled Corridor = corridor_domain_spelled

-- ---- problems

abbrev IsGround : AtomText → Type 0
IsGround = IsAtomSpelled IsName

lit_spelled : (number : ℕ) → number ≤ 256 → IsGround (lit number)
lit_spelled number few = atom_spelled IsName (codes "lit") (lamp number ∷ []) lit_heads (all_one IsName (lamp number) (lamp_named number few))

at_spelled : (number : ℕ) → number ≤ 256 → IsGround (at number)
at_spelled number few = atom_spelled IsName (codes "at") (cell number ∷ []) at_heads (all_one IsName (cell number) (cell_named number few))

next_spelled : (number : ℕ) → number < 256 → IsGround (next number)
next_spelled number few =
    atom_spelled IsName (codes "next") (cell number ∷ cell (number + 1) ∷ []) next_heads
    (all_two IsName (cell number) (cell (number + 1)) (cell_named number (omega (arith, few))) (cell_named (number + 1) (omega (arith, few))))

lights_problem_spelled : (size : ℕ) → size ≤ 256 → IsProblemSpelled (lights_problem size)
lights_problem_spelled size few = record {
  own = refl;
  domain = refl;
  requirements = All-nil _;
  objects = untyped_spelled IsName (map lamp (range_with_len 0 size)) (all_numbered IsName lamp size (λ k less. lamp_named k (omega (arith, few, less))));
  init = All-nil _;
  goal = all_numbered IsGround lit size (λ k less. lit_spelled k (omega (arith, few, less)));
}

corridor_problem_spelled : (size : ℕ) → size ≤ 256 → IsProblemSpelled (corridor_problem size)
corridor_problem_spelled size few = record {
  own = refl;
  domain = refl;
  requirements = All-nil _;
  objects = untyped_spelled IsName (map cell (range_with_len 0 size)) (all_numbered IsName cell size (λ k less. cell_named k (omega (arith, few, less))));
  init = All-cons IsGround (at 0) (map next (range_with_len 0 (size - 1))) (at_spelled 0 (omega arith)) (all_numbered IsGround next (size - 1) (λ k less. next_spelled k (omega (arith, few, less))));
  goal = all_one IsGround (at (size - 1)) (at_spelled (size - 1) (omega (arith, few)));
}

pub problem_spelled : (family : Family) (size : ℕ) → size ≤ 256 → IsProblemSpelled (problem_of family size)
problem_spelled Lights size few = lights_problem_spelled size few
problem_spelled Corridor size few = corridor_problem_spelled size few
