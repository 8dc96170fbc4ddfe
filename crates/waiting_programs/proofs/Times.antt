-- How often lists name a slot, and the values at their slots.
use Rattle.std.proofs.Common.{◌≡◌, ◌≢◌, ℕ, zero, suc, ◌+◌, ◌<◌, ◌≤◌, ◌==◌, Bool, true, false, List, [], ◌∷◌, ◌++◌, length, get_or, set, take, Option, Some, None, IsSome, cond, refl, sym, ap, arith}
use Rattle.std.specs.List.{filter_map, cons_option, slice_get}
use Rattle.std.proofs.lemmas.Bool.{eq-eqb, ne_eqb}
use Rattle.std.proofs.lemmas.List.Sums.{sum_by_push, sum_by_more, sum_by-set, sum_by-take-le, get_or-le-sum_by}
use Rattle.partial_program.proofs.Slots.{some_value}
use Rattle.waiting_programs.specs.Inner.Holds.{times}

-- 1 where two slots are the same
abbrev pub told : ℕ → ℕ → ℕ
told other slot = cond (other == slot) 1 0

pub told_is : (other slot : ℕ) → other ≡ slot → told other slot ≡ 1
told_is other slot is = let yes = eq-eqb other slot is in rw yes refl

pub told_not : (other slot : ℕ) → other ≢ slot → told other slot ≡ 0
told_not other slot differs = let no = ne_eqb other slot differs in rw no refl

pub told_le : (other slot : ℕ) → told other slot ≤ 1
told_le other slot = at_most (other == slot)
  where
    at_most : (b : Bool) → cond b 1 0 ≤ 1
    at_most true = omega arith
    at_most false = omega arith

pub times_push : (slot : ℕ) (slots : List ℕ) (own : ℕ) → times slot (slots ++ own ∷ []) ≡ times slot slots + told own slot
times_push slot slots own = sum_by_push (λ other. told other slot) slots own

pub times_set : (slot : ℕ) (slots : List ℕ) (place own d : ℕ) → place < length slots → times slot (set slots place own) + told (get_or slots place d) slot ≡ times slot slots + told own slot
times_set slot slots place own d within = sum_by-set (λ other. told other slot) slots place own d within

pub times_more : (slot : ℕ) (slots : List ℕ) (i d : ℕ) → i < length slots → times slot (take (i + 1) slots) ≡ times slot (take i slots) + told (get_or slots i d) slot
times_more slot slots i d within = sum_by_more (λ other. told other slot) slots i d within

-- a slot is named once more than before its place
pub times_before : (slots : List ℕ) (i slot : ℕ) → i < length slots → slot ≡ get_or slots i slot → times slot (take i slots) + 1 ≤ times slot slots
times_before slots i slot within is =
    omega (arith, times_more slot slots i slot within, sum_by-take-le (λ other. told other slot) slots (i + 1), told_is (get_or slots i slot) slot (sym is))

pub times_there : (slots : List ℕ) (k d : ℕ) → k < length slots → 0 < times (get_or slots k d) slots
times_there slots k d within =
    let slot = get_or slots k d in
    omega (arith, get_or-le-sum_by (λ other. told other slot) slots k d within, told_is slot slot refl)

-- what stands at some slots, where each has a value
module _ {T : Type 0} (f g : ℕ → Option T) where
  pub found_alike : (slots : List ℕ) → ((k : ℕ) → k < length slots → g (get_or slots k 0) ≡ f (get_or slots k 0)) → filter_map g slots ≡ filter_map f slots
  found_alike [] alike = refl
  found_alike (slot ∷ slots) alike =
      rw (alike 0 (omega arith), found_alike slots (λ k within. alike (suc k) (omega (arith, within)))) refl

  pub found_set : (slots : List ℕ) (place own : ℕ) (value : T) → place < length slots → g own ≡ Some value → ((k : ℕ) → k < length slots → IsSome (f (get_or slots k 0))) → ((k : ℕ) → k < length slots → k ≢ place → g (get_or slots k 0) ≡ f (get_or slots k 0)) → filter_map g (set slots place own) ≡ set (filter_map f slots) place value
  found_set [] place own value within here there alike = absurd (omega (arith, within))
  found_set (slot ∷ slots) zero own value within here there alike =
      let first = some_value (f slot) (there 0 (omega arith)) in
      rw (here, first.1, found_alike slots (λ k lt. alike (suc k) (omega (arith, lt)) (omega arith))) refl
  found_set (slot ∷ slots) (suc place) own value within here there alike =
      let first = some_value (f slot) (there 0 (omega arith)) in
      let same = alike 0 (omega arith) (omega arith) in
      rw (same, first.1, found_set slots place own value (omega (arith, within)) here (λ k lt. there (suc k) (omega (arith, lt))) (λ k lt differs. alike (suc k) (omega (arith, lt)) (omega (arith, differs)))) refl

module _ {T : Type 0} (f : ℕ → Option T) where
  pub length_found : (slots : List ℕ) → ((k : ℕ) → k < length slots → IsSome (f (get_or slots k 0))) → length (filter_map f slots) ≡ length slots
  length_found [] there = refl
  length_found (slot ∷ slots) there =
      let first = some_value (f slot) (there 0 (omega arith)) in
      rw first.1 (ap suc (length_found slots (λ k lt. there (suc k) (omega (arith, lt)))))

  pub found_at : (slots : List ℕ) (k d : ℕ) → ((j : ℕ) → j < length slots → IsSome (f (get_or slots j 0))) → k < length slots → slice_get (filter_map f slots) k ≡ f (get_or slots k d)
  found_at [] k d there within = absurd (omega (arith, within))
  found_at (slot ∷ slots) zero d there within =
      let first = some_value (f slot) (there 0 (omega arith)) in
      rw first.1 refl
  found_at (slot ∷ slots) (suc k) d there within =
      let first = some_value (f slot) (there 0 (omega arith)) in
      rw first.1 (found_at slots k d (λ j lt. there (suc j) (omega (arith, lt))) (omega (arith, within)))

  pub found_push : (slots : List ℕ) (own : ℕ) (value : T) → f own ≡ Some value → filter_map f (slots ++ own ∷ []) ≡ filter_map f slots ++ value ∷ []
  found_push [] own value here = rw here refl
  found_push (slot ∷ slots) own value here = with_first (f slot) _ _ _ (found_push slots own value here)
    where
      with_first : (first : Option T) (some others rest : List T) → some ≡ others ++ rest → cons_option first some ≡ cons_option first others ++ rest
      with_first None some others rest e = e
      with_first (Some x) some others rest e = ap (λ (xs : List T). x ∷ xs) e
