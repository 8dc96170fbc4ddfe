-- The words of a text that is printed are tokens, and their parentheses are in order.
use Rattle.std.proofs.Common.{ℕ, suc, ◌≤◌, Bool, true, false, inl, inr, List, [], ◌∷◌, ◌++◌, Option, Some, None, IfSome, codes, refl, arith}
use Rattle.std.specs.Prelude.{All}
use Rattle.std.specs.List.{flat_map, list_any}
use Rattle.flag_rules.specs.Name.{IsName}
use Rattle.pddl_forms.specs.declared.texts.Word.{Word}
use Rattle.pddl_forms.specs.declared.texts.Typed.{Typed}
use Rattle.pddl_forms.specs.declared.texts.AtomText.{AtomText}
use Rattle.pddl_parser.specs.declared.texts.PredText.{PredText}
use Rattle.pddl_parser.specs.declared.texts.ActionText.{ActionText}
use Rattle.pddl_parser.specs.declared.texts.DomainText.{DomainText}
use Rattle.pddl_parser.specs.declared.texts.ProblemText.{ProblemText}
use Rattle.pddl_parser.specs.Spelled.{IsVariable, IsTermText, IsRequirementText, IsTypedSpelled, IsPredicateSpelled, IsAtomSpelled, IsActionSpelled, IsDomainSpelled, IsProblemSpelled}
use Rattle.pddl_printer.specs.Printing.{in_parentheses, section, texts_of, has_type, type_words, typed_words, predicate_words, atom_words, deleted_words, formula_words, effect_words, part_words, action_words, domain_section_words, problem_section_words}
use Rattle.pddl_printer.proofs.Tokens.{kind-name, token-name, kind-variable, token-variable, token-keyword, token-dash}
use Rattle.pddl_printer.proofs.Nesting.{IsPlain, IsNested, nested-none, nested-append, nested-cons, nested-parentheses, nested-deeper, nested-each, all-first, all-rest}

plain-name : (w : List ℕ) → IsName w → IsPlain w
plain-name w is = record { token = token-name w is; plain = rw (kind-name w is) refl }

plain-variable : (w : List ℕ) → IsVariable w → IsPlain w
plain-variable w is = record { token = token-variable w is; plain = rw (kind-variable w is) refl }

plain-term : (w : List ℕ) → IsTermText w → IsPlain w
plain-term w (inl is) = plain-name w is
plain-term w (inr is) = plain-variable w is

plain-keyword : (bs : List ℕ) → IsName bs → IsPlain (58 ∷ bs)
plain-keyword bs is = record { token = token-keyword bs is; plain = refl }

plain-requirement : (w : List ℕ) → IsRequirementText w → IsPlain w
plain-requirement w (inl is) = rw is (plain-keyword (codes "strips") refl)
plain-requirement w (inr is) = rw is (plain-keyword (codes "typing") refl)

plain-dash : IsPlain (codes "-")
plain-dash = record { token = token-dash; plain = refl }

one-word : (depth : ℕ) (w : List ℕ) → IsPlain w → IsNested depth (w ∷ [])
one-word depth w plain = nested-cons depth w [] plain (nested-none depth)

nested-words : (IsWord : List ℕ → Type 0) → ((w : List ℕ) → IsWord w → IsPlain w) → (words : List Word) → All (λ (w : Word). IsWord w.text) words → IsNested 0 (texts_of words)
nested-words IsWord plain [] all = nested-none 0
nested-words IsWord plain (w ∷ words) all =
    let P : Word → Type 0 = λ (v : Word). IsWord v.text in
    nested-cons 0 w.text (texts_of words) (plain w.text (all-first P w words all)) (nested-words IsWord plain words (all-rest P w words all))

nested-type : (of : Option Word) → IfSome of (λ (type : Word). IsName type.text) → (typed_later : Bool) → IsNested 0 (type_words of typed_later)
nested-type (Some type) is typed_later = nested-cons 0 (codes "-") (type.text ∷ []) plain-dash (one-word 0 type.text (plain-name type.text is))
nested-type None is true = nested-cons 0 (codes "-") (codes "object" ∷ []) plain-dash (one-word 0 (codes "object") (plain-name (codes "object") refl))
nested-type None is false = nested-none 0

nested-typed : (IsWord : List ℕ → Type 0) → ((w : List ℕ) → IsWord w → IsPlain w) → (names : List Typed) → All (IsTypedSpelled IsWord) names → IsNested 0 (typed_words names)
nested-typed IsWord plain [] all = nested-none 0
nested-typed IsWord plain (t ∷ names) all =
    let first = all-first (IsTypedSpelled IsWord) t names all in
    nested-cons 0 t.word.text (type_words t.of (list_any has_type names) ++ typed_words names) (plain t.word.text first.own)
    (nested-append 0 (type_words t.of (list_any has_type names)) (typed_words names) (nested-type t.of first.of (list_any has_type names)) (nested-typed IsWord plain names (all-rest (IsTypedSpelled IsWord) t names all)))

-- a section with these words within
nested-section : (depth : ℕ) (key : List ℕ) (us : List (List ℕ)) → IsPlain key → IsNested depth us → IsNested (suc depth) (section key us)
nested-section depth key us plain inner = nested-parentheses depth (key ∷ us) (nested-cons depth key us plain inner)

nested-atom : (IsWord : List ℕ → Type 0) → ((w : List ℕ) → IsWord w → IsPlain w) → (atom : AtomText) → IsAtomSpelled IsWord atom → IsNested 1 (atom_words atom)
unfolding atom_words
nested-atom IsWord plain atom is = nested-section 0 atom.head.text (texts_of atom.args) (plain-name atom.head.text is.head.own) (nested-words IsWord plain atom.args is.args)

nested-deleted : (atom : AtomText) → IsAtomSpelled IsTermText atom → IsNested 2 (deleted_words atom)
unfolding deleted_words
nested-deleted atom is = nested-section 1 (codes "not") (atom_words atom) (plain-name (codes "not") refl) (nested-atom IsTermText plain-term atom is)

nested-predicate : (predicate : PredText) → IsPredicateSpelled predicate → IsNested 1 (predicate_words predicate)
unfolding predicate_words
nested-predicate predicate is = nested-section 0 predicate.head.text (typed_words predicate.params) (plain-name predicate.head.text is.head.own) (nested-typed IsVariable plain-variable predicate.params is.params)

nested-formula : (IsWord : List ℕ → Type 0) → ((w : List ℕ) → IsWord w → IsPlain w) → (atoms : List AtomText) → All (IsAtomSpelled IsWord) atoms → IsNested 2 (formula_words atoms)
unfolding formula_words
nested-formula IsWord plain atoms all = nested-section 1 (codes "and") (flat_map atom_words atoms) (plain-name (codes "and") refl) (nested-each (IsAtomSpelled IsWord) atom_words 1 (nested-atom IsWord plain) atoms all)

nested-effect : (add del : List AtomText) → All (IsAtomSpelled IsTermText) add → All (IsAtomSpelled IsTermText) del → IsNested 3 (effect_words add del)
unfolding effect_words
nested-effect add del adds dels =
    let added = flat_map atom_words add in
    let deleted = flat_map deleted_words del in
    let first = nested-deeper 1 2 added (omega arith) (nested-each (IsAtomSpelled IsTermText) atom_words 1 (nested-atom IsTermText plain-term) add adds) in
    let then = nested-each (IsAtomSpelled IsTermText) deleted_words 2 nested-deleted del dels in
    nested-section 2 (codes "and") (added ++ deleted) (plain-name (codes "and") refl) (nested-append 2 added deleted first then)

-- a part of an action
nested-part : (depth : ℕ) (key : List ℕ) (us : List (List ℕ)) → IsName key → depth ≤ 3 → IsNested depth us → IsNested 3 ((58 ∷ key) ∷ us)
nested-part depth key us is less nested = nested-cons 3 (58 ∷ key) us (plain-keyword key is) (nested-deeper depth 3 us less nested)

nested-parts : (action : ActionText) → IsActionSpelled action → IsNested 3 (part_words action)
unfolding part_words
nested-parts action is =
    let params = in_parentheses (typed_words action.params) in
    let pre = formula_words action.pre in
    let effect = effect_words action.add action.del in
    let one = nested-part 1 (codes "parameters") params refl (omega arith) (nested-parentheses 0 (typed_words action.params) (nested-typed IsVariable plain-variable action.params is.params)) in
    let two = nested-part 2 (codes "precondition") pre refl (omega arith) (nested-formula IsTermText plain-term action.pre is.pre) in
    let three = nested-part 3 (codes "effect") effect refl (omega arith) (nested-effect action.add action.del is.add is.del) in
    nested-append 3 ((codes ":parameters" ∷ params) ++ (codes ":precondition" ∷ pre)) (codes ":effect" ∷ effect) (nested-append 3 (codes ":parameters" ∷ params) (codes ":precondition" ∷ pre) one two) three

nested-action : (action : ActionText) → IsActionSpelled action → IsNested 4 (action_words action)
unfolding action_words
nested-action action is =
    nested-section 3 (codes ":action") (action.name.text ∷ part_words action) (plain-keyword (codes "action") refl)
    (nested-cons 3 action.name.text (part_words action) (plain-name action.name.text is.own) (nested-parts action is))

-- a section of a text
section-within : (depth : ℕ) (key : List ℕ) (us : List (List ℕ)) → IsName key → suc depth ≤ 4 → IsNested depth us → IsNested 4 (section (58 ∷ key) us)
section-within depth key us is less nested = nested-deeper (suc depth) 4 (section (58 ∷ key) us) less (nested-section depth (58 ∷ key) us (plain-keyword key is) nested)

-- the opening of a text
nested-opening : (kind own : List ℕ) → IsName kind → IsName own → IsNested 4 (codes "define" ∷ section kind (own ∷ []))
nested-opening kind own is named =
    nested-cons 4 (codes "define") (section kind (own ∷ [])) (plain-name (codes "define") refl)
    (nested-deeper 1 4 (section kind (own ∷ [])) (omega arith) (nested-section 0 kind (own ∷ []) (plain-name kind is) (one-word 0 own (plain-name own named))))

nested-domain_sections : (domain : DomainText) → IsDomainSpelled domain → IsNested 4 (domain_section_words domain)
unfolding domain_section_words
nested-domain_sections domain is =
    let requirements = section (codes ":requirements") (texts_of domain.requirements) in
    let types = section (codes ":types") (typed_words domain.types) in
    let constants = section (codes ":constants") (typed_words domain.constants) in
    let predicates = section (codes ":predicates") (flat_map predicate_words domain.predicates) in
    let actions = flat_map action_words domain.actions in
    let a = section-within 0 (codes "requirements") (texts_of domain.requirements) refl (omega arith) (nested-words IsRequirementText plain-requirement domain.requirements is.requirements) in
    let b = section-within 0 (codes "types") (typed_words domain.types) refl (omega arith) (nested-typed IsName plain-name domain.types is.types) in
    let c = section-within 0 (codes "constants") (typed_words domain.constants) refl (omega arith) (nested-typed IsName plain-name domain.constants is.constants) in
    let d = section-within 1 (codes "predicates") (flat_map predicate_words domain.predicates) refl (omega arith) (nested-each IsPredicateSpelled predicate_words 1 nested-predicate domain.predicates is.predicates) in
    let e = nested-each IsActionSpelled action_words 4 nested-action domain.actions is.actions in
    nested-append 4 (((requirements ++ types) ++ constants) ++ predicates) actions
    (nested-append 4 ((requirements ++ types) ++ constants) predicates (nested-append 4 (requirements ++ types) constants (nested-append 4 requirements types a b) c) d) e

-- what stands between the outer parentheses of a domain
pub nested-domain : (domain : DomainText) → IsDomainSpelled domain → IsNested 4 ((codes "define" ∷ section (codes "domain") (domain.name.text ∷ [])) ++ domain_section_words domain)
nested-domain domain is =
    nested-append 4 (codes "define" ∷ section (codes "domain") (domain.name.text ∷ [])) (domain_section_words domain)
    (nested-opening (codes "domain") domain.name.text refl is.own) (nested-domain_sections domain is)

nested-problem_sections : (problem : ProblemText) → IsProblemSpelled problem → IsNested 4 (problem_section_words problem)
unfolding problem_section_words
nested-problem_sections problem is =
    let domain = section (codes ":domain") (problem.domain.text ∷ []) in
    let requirements = section (codes ":requirements") (texts_of problem.requirements) in
    let objects = section (codes ":objects") (typed_words problem.objects) in
    let init = section (codes ":init") (flat_map atom_words problem.init) in
    let goals = section (codes ":goal") (formula_words problem.goal) in
    let a = section-within 0 (codes "domain") (problem.domain.text ∷ []) refl (omega arith) (one-word 0 problem.domain.text (plain-name problem.domain.text is.domain)) in
    let b = section-within 0 (codes "requirements") (texts_of problem.requirements) refl (omega arith) (nested-words IsRequirementText plain-requirement problem.requirements is.requirements) in
    let c = section-within 0 (codes "objects") (typed_words problem.objects) refl (omega arith) (nested-typed IsName plain-name problem.objects is.objects) in
    let d = section-within 1 (codes "init") (flat_map atom_words problem.init) refl (omega arith) (nested-each (IsAtomSpelled IsName) atom_words 1 (nested-atom IsName plain-name) problem.init is.init) in
    let e = section-within 2 (codes "goal") (formula_words problem.goal) refl (omega arith) (nested-formula IsName plain-name problem.goal is.goal) in
    nested-append 4 (((domain ++ requirements) ++ objects) ++ init) goals
    (nested-append 4 ((domain ++ requirements) ++ objects) init (nested-append 4 (domain ++ requirements) objects (nested-append 4 domain requirements a b) c) d) e

-- what stands between the outer parentheses of a problem
pub nested-problem : (problem : ProblemText) → IsProblemSpelled problem → IsNested 4 ((codes "define" ∷ section (codes "problem") (problem.name.text ∷ [])) ++ problem_section_words problem)
nested-problem problem is =
    nested-append 4 (codes "define" ∷ section (codes "problem") (problem.name.text ∷ [])) (problem_section_words problem)
    (nested-opening (codes "problem") problem.name.text refl is.own) (nested-problem_sections problem is)
