-- What the limits and the length of a text say of its lists.
use Rattle.std.proofs.Common.{◌≡◌, ℕ, ◌<◌, ◌≤◌, ◌+◌, ◌*◌, ◌^◌, ◌==◌, nat_lt, Bool, true, false, cond, List, [], ◌∷◌, ◌++◌, map, flat_map, length, Option, Some, None, option_map, if◌then◌else◌, find, refl, ◌∙◌, arith, length-append}
use Rattle.std.specs.Prelude.{All}
use Rattle.std.specs.Option.{option_or}
use Rattle.std.proofs.lemmas.Bool.Decides.{nat_tests}
use Rattle.std.proofs.lemmas.List.{length-map}
use Rattle.std.proofs.lemmas.List.Elements.{All-nil, All-cons}
use Rattle.pddl_forms.specs.declared.texts.Typed.{Typed}
use Rattle.pddl_parser.specs.declared.texts.PredText.{PredText}
use Rattle.pddl_parser.specs.declared.texts.ActionText.{ActionText}
use Rattle.pddl_parser.specs.declared.texts.DomainText.{DomainText}
use Rattle.pddl_parser.specs.declared.texts.ProblemText.{ProblemText}
use Rattle.pddl_parser.specs.Replies.{IsDomainText, IsProblemText}
use Rattle.pddl_parser.proofs.Readable.{domain-within, problem-within}
use Rattle.ground_state.specs.declared.parts.TheConstants.{MAX_OBJECTS, MAX_ARITY, MAX_PARAMETERS}
use Rattle.pddl_task.specs.declared.refusal.TaskRefusal.TheVariants as refusals
use Rattle.pddl_task.specs.declared.refusal.Which.TheVariants as limits
use Rattle.pddl_task.specs.Names.{with_name, with_names, is_among}
use Rattle.pddl_task.specs.Types.{root, text_of, word_of, names_of, mentioned, type_names}
use Rattle.pddl_task.specs.Faults.{head_of, IsFirst, IsDomainFault, actions_limit, predicates_limit, count_limit, objects_limit, domain_limit, problem_limit}
use Rattle.pddl_task.specs.Parts.{heads_of}
use Rattle.pddl_task.specs.Inner.Names.{different}
use Rattle.pddl_task.specs.Inner.Actions.{IsSchemaText}
use Rattle.pddl_task.proofs.Faultless.{sound_domain}

-- where no item is told to be too many, none is
none_over : {X R : Type 0} (told : ℕ → R) (max : ℕ) (count : X → ℕ) (xs : List X) → option_map told (find (λ n. nat_lt max n) (map count xs)) ≡ None → All (λ x. count x ≤ max) xs
none_over told max count [] is = All-nil (λ x. count x ≤ max)
none_over {X} {R} told max count (x ∷ xs) is = by (none_over told max count xs) (nat_lt max (count x)) refl is
  where
    by : (option_map told (find (λ n. nat_lt max n) (map count xs)) ≡ None → All (λ y. count y ≤ max) xs) → (b : Bool) → nat_lt max (count x) ≡ b
        → option_map told (cond b (Some (count x)) (find (λ n. nat_lt max n) (map count xs))) ≡ None → All (λ y. count y ≤ max) (x ∷ xs)
    by rest true many none = absurd (cc)
    by rest false few none = All-cons (λ y. count y ≤ max) x xs (grind (arith, nat_tests)) (rest none)

-- of two there is none where there is neither
neither : {X : Type 0} (a b : Option X) → option_or a b ≡ None → (a ≡ None) × (b ≡ None)
neither None b is = (refl, is)
neither (Some x) b is = absurd (cc)

-- a count that exceeds no limit is small
count_within : (count : ℕ) → count_limit count ≡ None → count ≤ MAX_OBJECTS
count_within count is = by (nat_lt MAX_OBJECTS count) refl is
  where
    by : (b : Bool) → nat_lt MAX_OBJECTS count ≡ b → (if b then Some (refusals.Limit limits.Objects count) else None) ≡ None → count ≤ MAX_OBJECTS
    by true many none = absurd (cc)
    by false few none = grind (arith, nat_tests)

-- a domain that exceeds no limit
pub record IsWithinLimits (domain : DomainText) : Type 0 where
  pub params : All (λ (action : ActionText). length action.params ≤ MAX_PARAMETERS) domain.actions
  pub arities : All (λ (predicate : PredText). length predicate.params ≤ MAX_ARITY) domain.predicates
  pub constants : length domain.constants ≤ MAX_OBJECTS

pub domain_limits : (domain : DomainText) → domain_limit domain ≡ None → IsWithinLimits domain
domain_limits domain within =
    let first = neither (option_or (actions_limit domain.actions) (predicates_limit domain.predicates)) (count_limit (length domain.constants)) within in
    let second = neither (actions_limit domain.actions) (predicates_limit domain.predicates) first.0 in
    record {
      params = none_over (refusals.Limit limits.Parameters) MAX_PARAMETERS (λ (action : ActionText). length action.params) domain.actions second.0;
      arities = none_over (refusals.Limit limits.Arity) MAX_ARITY (λ (predicate : PredText). length predicate.params) domain.predicates second.1;
      constants = count_within (length domain.constants) first.1;
    }

-- objects that exceed no limit
objects_within : (count : ℕ) → objects_limit count ≡ None → (0 < count) × (count ≤ MAX_OBJECTS)
objects_within count is = by (count == 0) refl is
  where
    by : (b : Bool) → (count == 0) ≡ b → (if b then Some refusals.NoObject else count_limit count) ≡ None → (0 < count) × (count ≤ MAX_OBJECTS)
    by true zero_many none = absurd (cc)
    by false some none = (grind (arith, nat_tests), count_within count none)

-- a problem that exceeds no limit has a constant or an object, and not too many
pub problem_limits : (domain : DomainText) (problem : ProblemText) → problem_limit domain problem ≡ None
    → (0 < length (domain.constants ++ problem.objects)) × (length (domain.constants ++ problem.objects) ≤ MAX_OBJECTS)
problem_limits domain problem within = objects_within (length (domain.constants ++ problem.objects)) within

-- one more name is one more at most
name_within : (names : List (List ℕ)) (name : List ℕ) → length (with_name names name) ≤ length names + 1
name_within names name = by (is_among name names)
  where
    by : (b : Bool) → length (if b then names else names ++ name ∷ []) ≤ length names + 1
    by true = omega arith
    by false = omega (arith, length-append names (name ∷ []))

names_within : (start names : List (List ℕ)) → length (with_names start names) ≤ length start + length names
names_within start [] = omega arith
names_within start (name ∷ names) =
    let rest : length (with_names (with_name start name) names) ≤ length (with_name start name) + length names = names_within (with_name start name) names in
    let one : length (with_name start name) ≤ length start + 1 = name_within start name in
    omega (arith, rest, one)

different_within : (names : List (List ℕ)) → length (different names) ≤ length names
different_within names = let few = names_within [] names in omega (arith, few)

mentioned_long : (types : List Typed) → length (flat_map mentioned types) ≡ 2 * length types
mentioned_long [] = refl
mentioned_long (typed ∷ types) = let rest = mentioned_long types in omega (arith, rest)

-- there are at most twice as many names of types as words in `:types`, and `object`
types_within : (types : List Typed) → length (type_names types) ≤ 2 * length types + 1
types_within types =
    let few : length (with_names (root ∷ []) (flat_map mentioned types)) ≤ length (flat_map mentioned types) + 1 = omega (arith, names_within (root ∷ []) (flat_map mentioned types)) in
    omega (arith, few, mentioned_long types)

-- the lists of a domain that was read are short
pub types_few : (domain : DomainText) → IsDomainText domain → length (type_names domain.types) < 2 ^ 32
types_few domain read =
    let within = domain-within domain read in
    omega (arith, types_within domain.types, within.types)

pub predicates_few : (domain : DomainText) → IsDomainText domain → length domain.predicates < 2 ^ 32
predicates_few domain read = let within = domain-within domain read in omega (arith, within.predicates)

pub actions_few : (domain : DomainText) → IsDomainText domain → length domain.actions < 2 ^ 32
actions_few domain read = let within = domain-within domain read in omega (arith, within.actions)

-- an action whose lists of atoms are short
pub record HasFewAtoms (action : ActionText) : Type 0 where
  pub pre : length action.pre < 2 ^ 32
  pub add : length action.add < 2 ^ 32
  pub del : length action.del < 2 ^ 32

pub atoms_few : (domain : DomainText) → IsDomainText domain → All HasFewAtoms domain.actions
atoms_few domain read = λ k d less.
    let each = (domain-within domain read).each k d less in
    record { pre = omega (arith, each.pre); add = omega (arith, each.add); del = omega (arith, each.del) }

-- the names of the predicates of a domain that was read are few
pub heads_few : (domain : DomainText) → IsDomainText domain → length (different (heads_of domain.predicates)) < 2 ^ 32
heads_few domain read =
    let long : length (heads_of domain.predicates) ≡ length domain.predicates = length-map (map head_of domain.predicates) text_of ∙ length-map domain.predicates head_of in
    omega (arith, different_within (heads_of domain.predicates), long, predicates_few domain read)

-- there are at most as many names as words in a typed list
pub names_few : (list : List Typed) → length (different (names_of list)) ≤ length list
names_few list =
    let long : length (names_of list) ≡ length list = length-map (map word_of list) text_of ∙ length-map list word_of in
    omega (arith, different_within (names_of list), long)

-- the names of constants and objects that exceed no limit are few
pub names_over_few : (domain : DomainText) (problem : ProblemText) → problem_limit domain problem ≡ None → length (different (names_of (domain.constants ++ problem.objects))) ≤ MAX_OBJECTS
names_over_few domain problem within =
    let few = problem_limits domain problem within in
    omega (arith, few.1, names_few (domain.constants ++ problem.objects))

-- the names of constants that exceed no limit are few
pub constants_few : (domain : DomainText) → domain_limit domain ≡ None → length (different (names_of domain.constants)) ≤ MAX_OBJECTS
constants_few domain within =
    let few = (domain_limits domain within).constants in
    omega (arith, few, names_few domain.constants)

-- the constants of a domain and the objects of a problem, both of them read, are few
pub objects_few : (domain : DomainText) (problem : ProblemText) → IsDomainText domain → IsProblemText problem → length domain.constants + length problem.objects < 2 ^ 32
objects_few domain problem read readable =
    let one = domain-within domain read in
    let other = problem-within problem readable in
    omega (arith, one.constants, other.objects)

-- an action without a fault that exceeds no limit
pub schema_texts : (domain : DomainText) → IsFirst (IsDomainFault domain) None → domain_limit domain ≡ None → All IsSchemaText domain.actions
schema_texts domain free within = λ k d less. record {
  apart = ((sound_domain domain free).each k d less).apart;
  few = (domain_limits domain within).params k d less;
}
