-- Texts that say the same are those of one task and of one instance, and exceed the same limits.
use Rattle.std.proofs.Common.{◌≡◌, ℕ, List, [], ◌++◌, map, length, find, nat_lt, option_map, sym, ap, ◌∙◌, if◌then◌else◌}
use Rattle.std.specs.Option.{option_or}
use Rattle.ground_state.specs.declared.parts.TheConstants.{MAX_ARITY, MAX_PARAMETERS}
use Rattle.ground_state.specs.declared.parts.Term.TheVariants.{Param, Object}
use Rattle.pddl_forms.specs.declared.texts.Word.{Word}
use Rattle.pddl_forms.specs.declared.texts.Typed.{Typed}
use Rattle.pddl_forms.specs.declared.texts.AtomText.{AtomText}
use Rattle.pddl_parser.specs.declared.texts.PredText.{PredText}
use Rattle.pddl_parser.specs.declared.texts.ActionText.{ActionText}
use Rattle.pddl_parser.specs.declared.texts.DomainText.{DomainText}
use Rattle.pddl_parser.specs.declared.texts.ProblemText.{ProblemText}
use Rattle.pddl_printer.specs.Alike.{AlikeWord, AlikeTyped, AlikeAtom, AlikePredicate, AlikeAction, AlikeDomain, AlikeProblem, AreAlike}
use Rattle.pddl_task.specs.declared.refusal.TaskRefusal.TheVariants as refusals
use Rattle.pddl_task.specs.declared.refusal.Which.TheVariants as limits
use Rattle.pddl_task.specs.Names.{is_among, number_of}
use Rattle.pddl_task.specs.Types.{names_of, type_names, type_number, types_of}
use Rattle.pddl_task.specs.Faults.{count_limit, domain_limit, objects_limit, problem_limit}
use Rattle.pddl_task.specs.Parts.{object_of, predicate_of, term_of, lifted_of, schema_of, heads_of, task_of, fact_of, instance_of}
use Rattle.family_gen.proofs.Alike.{alike_map, alike_length, alike_nothing, alike_append, alike_type, alike_names, alike_heads}

module _ (types heads constants : List (List ℕ)) where
  same_number : (x y : Typed) → AlikeTyped x y → type_number types x ≡ type_number types y
  same_number x y alike = ap (number_of types) (alike_type x y alike)

  pub same_object : (x y : Typed) → AlikeTyped x y → object_of types x ≡ object_of types y
  same_object x y alike = λ i. record { name = alike.word i; of = same_number x y alike i }

  same_term : (params : List (List ℕ)) (x y : Word) → AlikeWord x y → term_of params constants x ≡ term_of params constants y
  same_term params x y alike = ap (λ text. if is_among text params then Param (number_of params text) else Object (number_of constants text)) alike

  same_lifted : (params : List (List ℕ)) (x y : AtomText) → AlikeAtom x y → lifted_of heads params constants x ≡ lifted_of heads params constants y
  same_lifted params x y alike =
      let args = alike_map AlikeWord (term_of params constants) (same_term params) x.args y.args alike.args in
      λ i. record { pred = number_of heads (alike.head i); args = args i }

  same_lifted_atoms : (x y : ActionText) → AlikeAction x y → (one other : List AtomText) → AreAlike AlikeAtom one other → map (lifted_of heads (names_of x.params) constants) one ≡ map (lifted_of heads (names_of y.params) constants) other
  same_lifted_atoms x y alike one other atoms =
      alike_map AlikeAtom (lifted_of heads (names_of x.params) constants) (same_lifted (names_of x.params)) one other atoms
      ∙ ap (λ params. map (lifted_of heads params constants) other) (alike_names x.params y.params alike.params)

  pub same_schema : (x y : ActionText) → AlikeAction x y → schema_of types heads constants x ≡ schema_of types heads constants y
  same_schema x y alike =
      let params = alike_map AlikeTyped (type_number types) same_number x.params y.params alike.params in
      let pre = same_lifted_atoms x y alike x.pre y.pre alike.pre in
      let add = same_lifted_atoms x y alike x.add y.add alike.add in
      let del = same_lifted_atoms x y alike x.del y.del alike.del in
      λ i. record { name = alike.name i; params = params i; pre = pre i; add = add i; del = del i }

-- an atom of a problem, where `constants` are all objects
same_fact : (heads objects : List (List ℕ)) (x y : AtomText) → AlikeAtom x y → fact_of heads objects x ≡ fact_of heads objects y
same_fact heads objects x y alike =
    let args = alike_map AlikeWord (λ (word : Word). number_of objects word.text) (λ v w same. ap (number_of objects) same) x.args y.args alike.args in
    λ i. record { pred = number_of heads (alike.head i); args = args i }

same_facts : (heads objects : List (List ℕ)) (one other : List AtomText) → AreAlike AlikeAtom one other → map (fact_of heads objects) one ≡ map (fact_of heads objects) other
same_facts heads objects = alike_map AlikeAtom (fact_of heads objects) (same_fact heads objects)

same_predicate : (x y : PredText) → AlikePredicate x y → predicate_of x ≡ predicate_of y
same_predicate x y alike =
    let count = alike_length AlikeTyped x.params y.params alike.params in
    λ i. record { name = alike.head i; arity = count i }

-- two domains without types that say the same
module _ (one other : DomainText) (alike : AlikeDomain one other) (untyped : one.types ≡ []) where
  same_types : one.types ≡ other.types
  same_types = untyped ∙ sym (alike_nothing AlikeTyped one.types other.types untyped alike.types)

  pub same_task : task_of one ≡ task_of other
  same_task =
      let types = same_types in
      let heads = alike_heads one.predicates other.predicates alike.predicates in
      let names = alike_names one.constants other.constants alike.constants in
      let constants = alike_map AlikeTyped (object_of (type_names one.types)) (same_object (type_names one.types) [] []) one.constants other.constants alike.constants
      ∙ ap (λ l. map (object_of (type_names l)) other.constants) types in
      let predicates = alike_map AlikePredicate predicate_of same_predicate one.predicates other.predicates alike.predicates in
      let schemas = alike_map AlikeAction (schema_of (type_names one.types) (heads_of one.predicates) (names_of one.constants)) (same_schema (type_names one.types) (heads_of one.predicates) (names_of one.constants)) one.actions other.actions alike.actions
      ∙ (λ i. map (schema_of (type_names (types i)) (heads i) (names i)) other.actions) in
      λ i. record { types = types_of (types i); constants = constants i; predicates = predicates i; schemas = schemas i }

  pub same_domain_limit : domain_limit one ≡ domain_limit other
  same_domain_limit =
      let actions = alike_map AlikeAction (λ (action : ActionText). length action.params) (λ x y like. alike_length AlikeTyped x.params y.params like.params) one.actions other.actions alike.actions in
      let predicates = alike_map AlikePredicate (λ (predicate : PredText). length predicate.params) (λ x y like. alike_length AlikeTyped x.params y.params like.params) one.predicates other.predicates alike.predicates in
      let constants = alike_length AlikeTyped one.constants other.constants alike.constants in
      λ i. option_or
      (option_or
      (option_map (refusals.Limit limits.Parameters) (find (λ count. nat_lt MAX_PARAMETERS count) (actions i)))
      (option_map (refusals.Limit limits.Arity) (find (λ count. nat_lt MAX_ARITY count) (predicates i))))
      (count_limit (constants i))

  -- and problems over them that say the same
  module _ (problem text : ProblemText) (like : AlikeProblem problem text) where
    objects_alike : AreAlike AlikeTyped (one.constants ++ problem.objects) (other.constants ++ text.objects)
    objects_alike = alike_append AlikeTyped one.constants other.constants problem.objects text.objects alike.constants like.objects

    facts : (atoms others : List AtomText) → AreAlike AlikeAtom atoms others
        → map (fact_of (heads_of one.predicates) (names_of (one.constants ++ problem.objects))) atoms ≡ map (fact_of (heads_of other.predicates) (names_of (other.constants ++ text.objects))) others
    facts atoms others are =
        let heads = alike_heads one.predicates other.predicates alike.predicates in
        let names = alike_names (one.constants ++ problem.objects) (other.constants ++ text.objects) objects_alike in
        same_facts (heads_of one.predicates) (names_of (one.constants ++ problem.objects)) atoms others are
        ∙ (λ i. map (fact_of (heads i) (names i)) others)

    pub same_instance : instance_of one problem ≡ instance_of other text
    same_instance =
        let objects = alike_map AlikeTyped (object_of (type_names one.types)) (same_object (type_names one.types) [] []) (one.constants ++ problem.objects) (other.constants ++ text.objects) objects_alike
        ∙ ap (λ l. map (object_of (type_names l)) (other.constants ++ text.objects)) same_types in
        let init = facts problem.init text.init like.init in
        let goal = facts problem.goal text.goal like.goal in
        λ i. record { objects = objects i; init = init i; goal = goal i }

    pub same_problem_limit : problem_limit one problem ≡ problem_limit other text
    same_problem_limit = ap objects_limit (alike_length AlikeTyped (one.constants ++ problem.objects) (other.constants ++ text.objects) objects_alike)
