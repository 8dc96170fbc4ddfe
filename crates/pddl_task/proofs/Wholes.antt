-- The first fault of an action, of a domain and of a problem, from those of each kind.
use Rattle.std.proofs.Common.{◌≡◌, ◌≢◌, ℕ, List, [], ◌++◌, map, Option, ◌⊎◌, inl, inr}
use Rattle.std.specs.Prelude.{Any}
use Rattle.pddl_forms.specs.declared.texts.Typed.{Typed}
use Rattle.pddl_forms.specs.declared.texts.AtomText.{AtomText}
use Rattle.pddl_parser.specs.declared.texts.ActionText.{ActionText}
use Rattle.pddl_parser.specs.declared.texts.PredText.{PredText}
use Rattle.pddl_parser.specs.declared.texts.DomainText.{DomainText}
use Rattle.pddl_parser.specs.declared.texts.ProblemText.{ProblemText}
use Rattle.pddl_task.specs.declared.fault.FaultKind.TheVariants.{OtherDomain}
use Rattle.pddl_task.specs.declared.arities.Arities.{Arities}
use Rattle.pddl_task.specs.declared.fault.Fault.{Fault}
use Rattle.pddl_task.specs.Inner.Arities.{AreAritiesOf, arity_in}
use Rattle.pddl_task.specs.Types.{word_of, names_of, type_names}
use Rattle.pddl_task.specs.Faults.{head_of, action_word, IsTypeCycle, IsUnknownParameter, IsDomainFault, type_twice, constant_twice, predicate_twice, action_twice, type_astray, of_constant, of_predicate, of_action, IsFirst, IsTwice, IsUnknownType, IsAtomFault, IsActionFault, IsProblemFault, object_twice, of_object, of_atom, other_domain, arity_named, fault_at}
use Rattle.pddl_task.specs.Inner.Names.{different}
use Rattle.pddl_task.specs.Inner.Faults.{earlier_of}
use Rattle.pddl_task.proofs.Alike.{alike_different, alike_joined, first_of_atoms_over, first_of_actions_over, first_twice_over}
use Rattle.pddl_task.proofs.First.{first_both, first_appended, first_same}

-- three rows, of which the last is on the atoms of three lists
pub first_of_rows : (P Q : Fault → Type 0) (R : Fault → AtomText → Type 0) (pre add del : List AtomText) (p q a b c : Option Fault) → IsFirst P p → IsFirst Q q
    → IsFirst (λ f. Any (R f) pre) a → IsFirst (λ f. Any (R f) add) b → IsFirst (λ f. Any (R f) del) c
    → IsFirst (λ f. P f ⊎ (Q f ⊎ Any (R f) (pre ++ (add ++ del)))) (earlier_of p (earlier_of q (earlier_of a (earlier_of b c))))
first_of_rows P Q R pre add del p q a b c is_p is_q is_a is_b is_c =
    first_both P (λ f. Q f ⊎ Any (R f) (pre ++ (add ++ del))) p _ is_p
    (first_both Q (λ f. Any (R f) (pre ++ (add ++ del))) q _ is_q
    (first_appended R pre (add ++ del) a _ is_a (first_appended R add del b c is_b is_c)))

-- four rows, of which the third is on the atoms of two lists
pub first_of_four : (P Q S : Fault → Type 0) (R : Fault → AtomText → Type 0) (init goal : List AtomText) (p q a b s : Option Fault) → IsFirst P p → IsFirst Q q
    → IsFirst (λ f. Any (R f) init) a → IsFirst (λ f. Any (R f) goal) b → IsFirst S s
    → IsFirst (λ f. P f ⊎ (Q f ⊎ (Any (R f) (init ++ goal) ⊎ S f))) (earlier_of p (earlier_of q (earlier_of (earlier_of a b) s)))
first_of_four P Q S R init goal p q a b s is_p is_q is_a is_b is_s =
    first_both P (λ f. Q f ⊎ (Any (R f) (init ++ goal) ⊎ S f)) p _ is_p
    (first_both Q (λ f. Any (R f) (init ++ goal) ⊎ S f) q _ is_q
    (first_both (λ f. Any (R f) (init ++ goal)) S _ s (first_appended R init goal a b is_a is_b) is_s))

-- a table of arities is the function of the predicates
pub arities_are : (predicates : List PredText) (table : Arities) → AreAritiesOf predicates table → arity_in table ≡ arity_named predicates
arities_are predicates table are = λ i name. are.named name i

module _ (domain : DomainText) (problem : ProblemText) (f : Fault) where
  -- the faults of a problem, one kind after the other
  abbrev IsProblemRow : Type 0
  IsProblemRow =
      IsTwice (names_of domain.constants) (map word_of problem.objects) f
      ⊎ (Any (IsUnknownType (type_names domain.types) f) problem.objects
      ⊎ (Any (IsAtomFault (arity_named domain.predicates) (names_of domain.constants ++ names_of problem.objects) f) (problem.init ++ problem.goal)
      ⊎ ((problem.domain.text ≢ domain.name.text) × (f ≡ fault_at OtherDomain problem.domain))))

  problem_row : IsProblemFault domain problem f → IsProblemRow
  problem_row (object_twice has) = inl has
  problem_row (of_object has) = inr (inl has)
  problem_row (of_atom has) = inr (inr (inl has))
  problem_row (other_domain other is) = inr (inr (inr (other, is)))

  row_of_problem : IsProblemRow → IsProblemFault domain problem f
  row_of_problem (inl has) = object_twice has
  row_of_problem (inr (inl has)) = of_object has
  row_of_problem (inr (inr (inl has))) = of_atom has
  row_of_problem (inr (inr (inr (other, is)))) = other_domain other is

-- the first fault of a problem, where the parts of the check are what they stand for
pub problem_rows : (domain : DomainText) (problem : ProblemText) (seen constants names types : List (List ℕ)) (arities : List ℕ → Option ℕ) (objects : List Typed) (init goal : List AtomText) (p q a b s : Option Fault)
    → seen ≡ different (names_of domain.constants) → constants ≡ different (names_of domain.constants) → names ≡ different (names_of problem.objects) → types ≡ type_names domain.types → arities ≡ arity_named domain.predicates
    → objects ≡ problem.objects → init ≡ problem.init → goal ≡ problem.goal
    → IsFirst (IsTwice seen (map word_of objects)) p → IsFirst (λ f. Any (IsUnknownType types f) objects) q
    → IsFirst (λ f. Any (IsAtomFault arities (constants ++ names) f) init) a → IsFirst (λ f. Any (IsAtomFault arities (constants ++ names) f) goal) b
    → IsFirst (λ f. (problem.domain.text ≢ domain.name.text) × (f ≡ fault_at OtherDomain problem.domain)) s
    → IsFirst (IsProblemFault domain problem) (earlier_of p (earlier_of q (earlier_of (earlier_of a b) s)))
problem_rows domain problem seen constants names types arities objects init goal p q a b s is_seen is_constants is_names is_types is_arities is_objects is_init is_goal is_p is_q is_a is_b is_s =
    first_same (IsProblemRow domain problem) (IsProblemFault domain problem) (earlier_of p (earlier_of q (earlier_of (earlier_of a b) s))) (row_of_problem domain problem) (problem_row domain problem)
    (first_of_four (IsTwice (names_of domain.constants) (map word_of problem.objects)) (λ f. Any (IsUnknownType (type_names domain.types) f) problem.objects)
    (λ f. (problem.domain.text ≢ domain.name.text) × (f ≡ fault_at OtherDomain problem.domain))
    (IsAtomFault (arity_named domain.predicates) (names_of domain.constants ++ names_of problem.objects))
    problem.init problem.goal p q a b s
    (first_twice_over (different (names_of domain.constants)) (names_of domain.constants) (map word_of problem.objects) p (alike_different (names_of domain.constants)) (rw (is_seen, is_objects) at is_p))
    (rw (is_types, is_objects) at is_q)
    (over problem.init a (rw (is_arities, is_constants, is_names, is_init) at is_a)) (over problem.goal b (rw (is_arities, is_constants, is_names, is_goal) at is_b)) is_s)
  where
    over : (atoms : List AtomText) (o : Option Fault) → IsFirst (λ f. Any (IsAtomFault (arity_named domain.predicates) (different (names_of domain.constants) ++ different (names_of problem.objects)) f) atoms) o
        → IsFirst (λ f. Any (IsAtomFault (arity_named domain.predicates) (names_of domain.constants ++ names_of problem.objects) f) atoms) o
    over atoms o first =
        first_of_atoms_over (arity_named domain.predicates) (different (names_of domain.constants) ++ different (names_of problem.objects)) (names_of domain.constants ++ names_of problem.objects) atoms o
        (alike_joined (different (names_of domain.constants)) (names_of domain.constants) (different (names_of problem.objects)) (names_of problem.objects) (alike_different (names_of domain.constants)) (alike_different (names_of problem.objects)))
        first

-- eight rows, told one after the other
first_of_eight : (A B C D E F G H : Fault → Type 0) (a b c d e f g h : Option Fault) → IsFirst A a → IsFirst B b → IsFirst C c → IsFirst D d → IsFirst E e → IsFirst F f → IsFirst G g → IsFirst H h
    → IsFirst (λ z. A z ⊎ (B z ⊎ (C z ⊎ (D z ⊎ (E z ⊎ (F z ⊎ (G z ⊎ H z))))))) (earlier_of a (earlier_of b (earlier_of c (earlier_of d (earlier_of e (earlier_of f (earlier_of g h)))))))
first_of_eight A B C D E F G H a b c d e f g h is_a is_b is_c is_d is_e is_f is_g is_h =
    first_both A (λ z. B z ⊎ (C z ⊎ (D z ⊎ (E z ⊎ (F z ⊎ (G z ⊎ H z)))))) a _ is_a
    (first_both B (λ z. C z ⊎ (D z ⊎ (E z ⊎ (F z ⊎ (G z ⊎ H z))))) b _ is_b
    (first_both C (λ z. D z ⊎ (E z ⊎ (F z ⊎ (G z ⊎ H z)))) c _ is_c
    (first_both D (λ z. E z ⊎ (F z ⊎ (G z ⊎ H z))) d _ is_d
    (first_both E (λ z. F z ⊎ (G z ⊎ H z)) e _ is_e
    (first_both F (λ z. G z ⊎ H z) f _ is_f
    (first_both G H g h is_g is_h))))))

module _ (domain : DomainText) (f : Fault) where
  -- the faults of a domain, one kind after the other
  abbrev IsDomainRow : Type 0
  IsDomainRow =
      IsTwice [] (map word_of domain.types) f
      ⊎ (IsTwice [] (map word_of domain.constants) f
      ⊎ (IsTwice [] (map head_of domain.predicates) f
      ⊎ (IsTwice [] (map action_word domain.actions) f
      ⊎ (Any (IsTypeCycle domain.types f) domain.types
      ⊎ (Any (IsUnknownType (type_names domain.types) f) domain.constants
      ⊎ (Any (IsUnknownParameter (type_names domain.types) f) domain.predicates
      ⊎ Any (IsActionFault (type_names domain.types) (arity_named domain.predicates) (names_of domain.constants) f) domain.actions))))))

  domain_row : IsDomainFault domain f → IsDomainRow
  domain_row (type_twice has) = inl has
  domain_row (constant_twice has) = inr (inl has)
  domain_row (predicate_twice has) = inr (inr (inl has))
  domain_row (action_twice has) = inr (inr (inr (inl has)))
  domain_row (type_astray has) = inr (inr (inr (inr (inl has))))
  domain_row (of_constant has) = inr (inr (inr (inr (inr (inl has)))))
  domain_row (of_predicate has) = inr (inr (inr (inr (inr (inr (inl has))))))
  domain_row (of_action has) = inr (inr (inr (inr (inr (inr (inr has))))))

  row_of_domain : IsDomainRow → IsDomainFault domain f
  row_of_domain (inl has) = type_twice has
  row_of_domain (inr (inl has)) = constant_twice has
  row_of_domain (inr (inr (inl has))) = predicate_twice has
  row_of_domain (inr (inr (inr (inl has)))) = action_twice has
  row_of_domain (inr (inr (inr (inr (inl has))))) = type_astray has
  row_of_domain (inr (inr (inr (inr (inr (inl has)))))) = of_constant has
  row_of_domain (inr (inr (inr (inr (inr (inr (inl has))))))) = of_predicate has
  row_of_domain (inr (inr (inr (inr (inr (inr (inr has))))))) = of_action has

-- the first fault of a domain, where the parts of the check are what they stand for
pub domain_rows : (domain : DomainText) (none none_2 none_3 none_4 constants types : List (List ℕ)) (arities : List ℕ → Option ℕ) (typed typed_2 constant_items : List Typed) (predicates : List PredText) (actions : List ActionText) (a b c d e f g h : Option Fault)
    → none ≡ [] → none_2 ≡ [] → none_3 ≡ [] → none_4 ≡ [] → constants ≡ different (names_of domain.constants) → types ≡ type_names domain.types → arities ≡ arity_named domain.predicates
    → typed ≡ domain.types → typed_2 ≡ domain.types → constant_items ≡ domain.constants → predicates ≡ domain.predicates → actions ≡ domain.actions
    → IsFirst (IsTwice none (map word_of typed)) a → IsFirst (IsTwice none_2 (map word_of constant_items)) b → IsFirst (IsTwice none_3 (map head_of predicates)) c → IsFirst (IsTwice none_4 (map action_word actions)) d
    → IsFirst (λ z. Any (IsTypeCycle typed_2 z) typed_2) e → IsFirst (λ z. Any (IsUnknownType types z) constant_items) f → IsFirst (λ z. Any (IsUnknownParameter types z) predicates) g
    → IsFirst (λ z. Any (IsActionFault types arities constants z) actions) h
    → IsFirst (IsDomainFault domain) (earlier_of a (earlier_of b (earlier_of c (earlier_of d (earlier_of e (earlier_of f (earlier_of g h)))))))
domain_rows domain none none_2 none_3 none_4 constants types arities typed typed_2 constant_items predicates actions a b c d e f g h is_none is_none_2 is_none_3 is_none_4 is_constants is_types is_arities is_typed is_typed_2 is_items is_predicates is_actions is_a is_b is_c is_d is_e is_f is_g is_h =
    first_same (IsDomainRow domain) (IsDomainFault domain) (earlier_of a (earlier_of b (earlier_of c (earlier_of d (earlier_of e (earlier_of f (earlier_of g h))))))) (row_of_domain domain) (domain_row domain)
    (first_of_eight (IsTwice [] (map word_of domain.types)) (IsTwice [] (map word_of domain.constants)) (IsTwice [] (map head_of domain.predicates)) (IsTwice [] (map action_word domain.actions))
    (λ z. Any (IsTypeCycle domain.types z) domain.types) (λ z. Any (IsUnknownType (type_names domain.types) z) domain.constants) (λ z. Any (IsUnknownParameter (type_names domain.types) z) domain.predicates)
    (λ z. Any (IsActionFault (type_names domain.types) (arity_named domain.predicates) (names_of domain.constants) z) domain.actions)
    a b c d e f g h
    (rw (is_none, is_typed) at is_a) (rw (is_none_2, is_items) at is_b) (rw (is_none_3, is_predicates) at is_c) (rw (is_none_4, is_actions) at is_d)
    (rw is_typed_2 at is_e) (rw (is_types, is_items) at is_f) (rw (is_types, is_predicates) at is_g)
    (first_of_actions_over (arity_named domain.predicates) (type_names domain.types) (different (names_of domain.constants)) (names_of domain.constants) domain.actions h (alike_different (names_of domain.constants))
    (rw (is_types, is_arities, is_constants, is_actions) at is_h)))
