-- Typing: a type reaches another one within fewer steps than there are types, so the test of these steps decides it.
use Rattle.std.proofs.Common.{◌≡◌, ◌↔◌, ℕ, zero, suc, ◌+◌, ◌-◌, ◌<◌, ◌≤◌, ◌⊎◌, inl, inr, Bool, true, false, ◌==◌, List, [], ◌∷◌, length, get_or, refl, ◌∙◌, ap, sym, subst, arith, map, All, Some, eqb}
use Rattle.std.specs.Prelude.{slice_index}
use Rattle.std.specs.List.{slice_get, AllZip, AllByRecursion, IsDistinct, list_any, range_with_len}
use Rattle.std.proofs.lemmas.Bool.{cases_Bool, cases_lt, eqb-true, eq-eqb, ltb-true, lt-ltb, false_from_ne_true, and_parts, and_from}
use Rattle.std.proofs.lemmas.List.{length-map, get_or-map}
use Rattle.std.proofs.lemmas.Option.{slice_get_within, slice_get-get_or, get_or_from_slice_get}
use Rattle.ground_state.proofs.Lists.{slice_get-map_at}
use Rattle.std.proofs.lemmas.List.Elements.{All-map}
use Rattle.std.proofs.lemmas.List.Folds.{Any-from_list_any, list_any_at}
use Rattle.std.proofs.lemmas.List.FromFn.{length-range_with_len, get_or-range_with_len, length-map-range_with_len, get_or-map-range_with_len}
use Rattle.std.proofs.lemmas.Map.Steps.{length-le_from_distinct_below}
use Rattle.ground_state.specs.declared.parts.TypeEntry.{TypeEntry}
use Rattle.ground_state.specs.Task.{AreTypes, Reaches, itself, by_parent, ancestor, reaches}
use Rattle.ground_state.specs.Action.{are_of_types}

-- ---- values of a function that differ are few
apart_from_rest : (f : ℕ → ℕ) (n a b : ℕ) → b < a → ((j : ℕ) → b < j → j < a + n → f b ≡ f j → ⊥) → AllByRecursion (λ y. eqb (f b) y ≡ false) (map f (range_with_len a n))
apart_from_rest f zero a b low apart = tt
apart_from_rest f (suc n) a b low apart = (
  false_from_ne_true _ (λ same. apart a low (omega arith) (eqb-true (f b) (f a) same)),
  apart_from_rest f n (a + 1) b (omega arith) (λ j past within. apart j past (omega arith)),
)

values_differ : (f : ℕ → ℕ) (n a : ℕ) → ((i j : ℕ) → i < j → j < a + n → f i ≡ f j → ⊥) → IsDistinct eqb (map f (range_with_len a n))
unfolding IsDistinct
values_differ f zero a apart = tt
values_differ f (suc n) a apart = (
  apart_from_rest f n (a + 1) a (omega arith) (λ j past within. apart a j past (omega arith)),
  values_differ f n (a + 1) (λ i j past within. apart i j past (omega arith)),
)

few_values : (f : ℕ → ℕ) (n top : ℕ) → ((i : ℕ) → f i < top) → ((i j : ℕ) → i < j → j < n → f i ≡ f j → ⊥) → n ≤ top
few_values f n top low apart =
    let values = map f (range_with_len 0 n) in
    let below : (q : ℕ) → list_any (eqb q) values ≡ true → q < top = λ q among.
    let found = Any-from_list_any (eqb q) values among in
    let within : found.0 < n = omega (arith, found.2, length-map-range_with_len f 0 n) in
    let value = get_or-map-range_with_len f 0 n found.0 found.0 found.1 within (omega arith) in
    omega (arith, eqb-true q found.1 found.4, found.3, value, low found.0) in
    omega (arith, length-map-range_with_len f 0 n, length-le_from_distinct_below values top (values_differ f n 0 (λ i j past within. apart i j past (omega arith))) below)

-- ---- the first number at which a test holds
record IsFirst (test : ℕ → Bool) (s : ℕ) : Type 0 where
  holds : test s ≡ true
  before : (r : ℕ) → r < s → test r ≡ false

first_of : (test : ℕ → Bool) (n : ℕ) → ((r : ℕ) → r < n → test r ≡ false) ⊎ ((s : ℕ) × IsFirst test s)
first_of test zero = inl (λ r low. absurd (omega arith))
first_of test (suc n) =
    elim (first_of test n) [
      | inr found ↦ inr found
      | inl none ↦ elim (cases_Bool (test n)) [
        | inl held ↦ inr (n, record { holds = held; before = none })
        | inr missed ↦ inl (λ r low. elim (cases_lt r n) [
          | inl below ↦ none r below
          | inr over ↦ let same : r ≡ n = omega arith in ap test same ∙ missed
        ])
      ]
    ]

-- ---- ancestors
ancestor_within : (types : List TypeEntry) (number steps : ℕ) → All (λ (entry : TypeEntry). entry.parent < length types) types → number < length types → ancestor types steps number < length types
ancestor_within types number zero parents low = low
ancestor_within types number (suc steps) parents low =
    let P : ℕ → Type 0 = λ number. number < length types in
    let parent = λ (entry : TypeEntry). entry.parent in
    All-map P parent types parents (ancestor types steps number) 0 (omega (arith, length-map types parent, ancestor_within types number steps parents low))

same_on : (types : List TypeEntry) (number i j r : ℕ) → ancestor types i number ≡ ancestor types j number → ancestor types (r + i) number ≡ ancestor types (r + j) number
same_on types number i j zero same = ap (λ n. ancestor types n number) (omega arith) ∙ same ∙ ap (λ n. ancestor types n number) (omega arith)
same_on types number i j (suc r) same =
    let one : suc r + i ≡ suc (r + i) = omega arith in
    let other : suc (r + j) ≡ suc r + j = omega arith in
    ap (λ n. ancestor types n number) one ∙ ap (slice_index (map (λ (entry : TypeEntry). entry.parent) types)) (same_on types number i j r same) ∙ ap (λ n. ancestor types n number) other

-- the first step at which a type is reached is below the number of types, since the ancestors up to it differ
first_is_soon : (types : List TypeEntry) (number above s : ℕ) → AreTypes types → number < length types → IsFirst (λ steps. ancestor types steps number == above) s → s < length types
first_is_soon types number above s fit low first =
    let f = λ (steps : ℕ). ancestor types steps number in
    let apart : (i j : ℕ) → i < j → j < s + 1 → f i ≡ f j → ⊥ = λ i j past within same.
    let whole : (s - j) + j ≡ s = omega arith in
    let early : f ((s - j) + i) ≡ above = same_on types number i j (s - j) same ∙ ap f whole ∙ eqb-true (f s) above first.holds in
    let told = eq-eqb (f ((s - j) + i)) above early in
    let missed = first.before ((s - j) + i) (omega arith) in
    absurd (cc) in
    omega (arith, few_values f (s + 1) (length types) (λ i. ancestor_within types number i fit.parents low) apart)

-- ---- a type reaches another one exactly where some number of steps leads to it
next_ancestor : (types : List TypeEntry) (steps number : ℕ) → ancestor types (suc steps) number ≡ ancestor types steps (ancestor types 1 number)
next_ancestor types zero number = refl
next_ancestor types (suc steps) number = ap (slice_index (map (λ (entry : TypeEntry). entry.parent) types)) (next_ancestor types steps number)

parent_read : (types : List TypeEntry) (number : ℕ) (entry : TypeEntry) → slice_get types number ≡ Some entry → ancestor types 1 number ≡ entry.parent
parent_read types number entry here =
    let parent = λ (entry : TypeEntry). entry.parent in
    get_or_from_slice_get (map parent types) number entry.parent 0 (slice_get-map_at parent types number entry here)

-- what reaches something is a type
pub reaching_is_type : {types : List TypeEntry} {number above : ℕ} → Reaches types number above → number < length types
reaching_is_type (itself within) = within
reaching_is_type {types} {number} (by_parent {entry = entry} here rest) = slice_get_within types number entry here

pub steps_from_Reaches : {types : List TypeEntry} {number above : ℕ} → Reaches types number above → (steps : ℕ) × (ancestor types steps number ≡ above)
steps_from_Reaches (itself within) = (0, refl)
steps_from_Reaches {types} {number} (by_parent {entry = entry} here rest) =
    let further = steps_from_Reaches rest in
    (suc further.0, next_ancestor types further.0 number ∙ ap (ancestor types further.0) (parent_read types number entry here) ∙ further.1)

pub Reaches-from_steps : (types : List TypeEntry) (steps number above : ℕ) → All (λ (entry : TypeEntry). entry.parent < length types) types → number < length types → ancestor types steps number ≡ above → Reaches types number above
Reaches-from_steps types zero number above parents within here = subst (λ n. Reaches types number n) here (itself within)
Reaches-from_steps types (suc steps) number above parents within here =
    let entry = get_or types number (record { name = []; parent = 0 }) in
    let read = slice_get-get_or types number _ within in
    by_parent read (Reaches-from_steps types steps entry.parent above parents (parents number _ within)
    (ap (ancestor types steps) (sym (parent_read types number entry read)) ∙ sym (next_ancestor types steps number) ∙ here))

-- ---- the test decides which types a type reaches
tested_steps : (types : List TypeEntry) (number above : ℕ) → reaches types number above ≡ true → (number < length types) × ((steps : ℕ) × (ancestor types steps number ≡ above))
tested_steps types number above tested =
    let parts = and_parts _ _ tested in
    let found = Any-from_list_any (λ steps. ancestor types steps number == above) (range_with_len 0 (length types)) parts.1 in
    (ltb-true number (length types) parts.0, (found.1, eqb-true _ above found.4))

test_of_steps : (types : List TypeEntry) (number above steps : ℕ) → number < length types → steps < length types → ancestor types steps number ≡ above → reaches types number above ≡ true
test_of_steps types number above steps known soon here =
    let test = λ (steps : ℕ). ancestor types steps number == above in
    let all = range_with_len 0 (length types) in
    let place = get_or-range_with_len 0 (length types) steps 0 soon in
    let same : get_or all steps 0 ≡ steps = omega (arith, place) in
    and_from _ _ (lt-ltb number (length types) known) (list_any_at test all steps 0 (omega (arith, soon, length-range_with_len 0 (length types))) (ap test same ∙ eq-eqb _ above here))

pub reaches_exactly : (types : List TypeEntry) (number above : ℕ) → AreTypes types → (reaches types number above ≡ true) ↔ Reaches types number above
reaches_exactly types number above fit = (
  (λ yes. let tested = tested_steps types number above yes in
      Reaches-from_steps types tested.1.0 number above fit.parents tested.0 tested.1.1),
  (λ held. let low = reaching_is_type held in
      let some = steps_from_Reaches held in
      elim (first_of (λ steps. ancestor types steps number == above) (suc some.0)) [
        | inl none ↦ let told = eq-eqb _ above some.1 in let missed = none some.0 (omega arith) in absurd (cc)
        | inr first ↦ test_of_steps types number above first.0 low (first_is_soon types number above first.0 fit low first.1) (eqb-true _ above first.1.holds)
      ]),
)

-- ---- the loop up the parents
pub reached_here : (types : List TypeEntry) (number above at i : ℕ) → number < length types → i < length types → at ≡ ancestor types i number → at ≡ above → true ≡ reaches types number above
reached_here types number above at i known within up here = sym (test_of_steps types number above i known within (sym up ∙ here))

pub not_reached : (types : List TypeEntry) (number above : ℕ) → ((r : ℕ) → r < length types → ancestor types r number ≡ above → ⊥) → false ≡ reaches types number above
not_reached types number above never =
    let test = λ (steps : ℕ). ancestor types steps number == above in
    let all = range_with_len 0 (length types) in
    sym (false_from_ne_true _ (λ yes.
    let found = Any-from_list_any test all (and_parts _ _ yes).1 in
    let within : found.0 < length types = omega (arith, found.2, length-range_with_len 0 (length types)) in
    let place = get_or-range_with_len 0 (length types) found.0 found.1 within in
    never found.1 (omega (arith, place, found.3, within)) (eqb-true _ above found.4)))

pub at_within : (types : List TypeEntry) (number at i : ℕ) → AreTypes types → number < length types → at ≡ ancestor types i number → at < length types
at_within types number at i fit low up = omega (arith, up, ancestor_within types number i fit.parents low)

pub parent_is_next : (types : List TypeEntry) (number at i : ℕ) (entry : TypeEntry) → at < length types → at ≡ ancestor types i number → (get_or types at entry).parent ≡ ancestor types (i + 1) number
parent_is_next types number at i entry within up =
    let parent = λ (entry : TypeEntry). entry.parent in
    let one : suc i ≡ i + 1 = omega arith in
    sym (get_or-map parent types at entry 0 within) ∙ ap (slice_index (map parent types)) up ∙ ap (λ n. ancestor types n number) one

pub one_step_up : (types : List TypeEntry) (number above at i : ℕ) → at ≡ ancestor types i number → (at ≡ above → ⊥) → ((r : ℕ) → r < i → ancestor types r number ≡ above → ⊥) → (r : ℕ) → r < i + 1 → ancestor types r number ≡ above → ⊥
one_step_up types number above at i up other before r low there = elim (cases_lt r i) [
  | inl below ↦ before r below there
  | inr over ↦ let same : i ≡ r = omega arith in other (up ∙ ap (λ n. ancestor types n number) same ∙ there)
]

-- ---- the types of an action's objects
pub typed_from_test : (types : List TypeEntry) (object_types args params : List ℕ) → AreTypes types → length args ≡ length params → are_of_types types object_types args params ≡ true → AllZip (λ object number. Reaches types (slice_index object_types object) number) args params
typed_from_test types object_types [] [] fit count tested = tt
typed_from_test types object_types [] (param ∷ params) fit count tested = absurd (cc)
typed_from_test types object_types (object ∷ args) [] fit count tested = absurd (cc)
typed_from_test types object_types (object ∷ args) (param ∷ params) fit count tested =
    let parts = and_parts _ _ tested in
    ((reaches_exactly types _ param fit).0 parts.0, typed_from_test types object_types args params fit (cc) parts.1)

pub test_from_typed : (types : List TypeEntry) (object_types args params : List ℕ) → AreTypes types → AllZip (λ object number. Reaches types (slice_index object_types object) number) args params → are_of_types types object_types args params ≡ true
test_from_typed types object_types [] [] fit typed = refl
test_from_typed types object_types [] (param ∷ params) fit typed = absurd typed
test_from_typed types object_types (object ∷ args) [] fit typed = absurd typed
test_from_typed types object_types (object ∷ args) (param ∷ params) fit typed =
    and_from _ _ ((reaches_exactly types _ param fit).1 typed.0) (test_from_typed types object_types args params fit typed.1)
