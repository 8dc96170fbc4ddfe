-- Lists of slots: what stands in them, and how many of them pass a test.
use Rattle.std.proofs.Common.{◌≡◌, ◌≢◌, ℕ, zero, suc, ◌+◌, ◌<◌, ◌≤◌, Bool, true, false, List, [], ◌∷◌, get_or, map, Option, Some, None, is_some, IsSome, cond, count_by, refl, ap, inl, inr, arith}
use Rattle.std.specs.Option.{option_map}
use Rattle.std.proofs.lemmas.Bool.{cases_Bool, false≢true}
use Rattle.std.proofs.lemmas.List.Sums.{sum_by-cons}

pub some_value : {A : Type 0} (slot : Option A) → IsSome slot → (x : A) × (slot ≡ Some x)
some_value None e = absurd (false≢true e)
some_value (Some x) e = (x, refl)

pub is_there : {A : Type 0} (slot : Option A) (x : A) → slot ≡ Some x → IsSome slot
is_there slot x e = rw e refl

-- a test on slots, which no empty one passes
module _ {A : Type 0} (test : Option A → Bool) (empty : test None ≡ false) where
  abbrev told : Option A → ℕ
  told slot = cond (test slot) 1 0

  none_told : told None ≡ 0
  none_told = rw empty refl

  count-cons : (slot : Option A) (slots : List (Option A)) → count_by test (slot ∷ slots) ≡ told slot + count_by test slots
  count-cons slot slots = sum_by-cons (λ o. cond (test o) 1 0) slot slots

  pub count-same : (slots others : List (Option A)) → ((at : ℕ) → get_or slots at None ≡ get_or others at None) → count_by test slots ≡ count_by test others
  count-same [] [] same = refl
  count-same [] (slot ∷ others) same =
      omega (arith, none_told, ap told (same 0), count-cons slot others, count-same [] others (λ at. same (suc at)))
  count-same (slot ∷ slots) [] same =
      omega (arith, none_told, ap told (same 0), count-cons slot slots, count-same slots [] (λ at. same (suc at)))
  count-same (slot ∷ slots) (other ∷ others) same =
      omega (arith, ap told (same 0), count-cons slot slots, count-cons other others, count-same slots others (λ at. same (suc at)))

  -- one slot changed: so does the count
  pub count-changed : (at : ℕ) (old new : List (Option A)) → ((other : ℕ) → other ≢ at → get_or new other None ≡ get_or old other None) → count_by test new + told (get_or old at None) ≡ count_by test old + told (get_or new at None)
  count-changed at [] [] others = refl
  count-changed zero [] (slot ∷ new) others =
      omega (arith, none_told, count-cons slot new, count-same new [] (λ at. others (suc at) (omega arith)))
  count-changed zero (slot ∷ old) [] others =
      omega (arith, none_told, count-cons slot old, count-same [] old (λ at. others (suc at) (omega arith)))
  count-changed zero (slot ∷ old) (other ∷ new) others =
      omega (arith, count-cons slot old, count-cons other new, count-same new old (λ at. others (suc at) (omega arith)))
  count-changed (suc at) [] (slot ∷ new) others =
      omega (arith, none_told, ap told (others 0 (omega arith)), count-cons slot new, count-changed at [] new (λ other differs. others (suc other) (omega arith)))
  count-changed (suc at) (slot ∷ old) [] others =
      omega (arith, none_told, ap told (others 0 (omega arith)), count-cons slot old, count-changed at old [] (λ other differs. others (suc other) (omega arith)))
  count-changed (suc at) (slot ∷ old) (other ∷ new) others =
      omega (arith, ap told (others 0 (omega arith)), count-cons slot old, count-cons other new, count-changed at old new (λ other differs. others (suc other) (omega arith)))

  -- where none passes, each does not
  pub count-none : (slots : List (Option A)) → count_by test slots ≡ 0 → (at : ℕ) → test (get_or slots at None) ≡ false
  count-none [] zeroes at = empty
  count-none (slot ∷ slots) zeroes zero =
      elim (cases_Bool (test slot)) [
        | inl e ↦ let one : told slot ≡ 1 = rw e refl in absurd (omega (arith, one, count-cons slot slots))
        | inr e ↦ e
      ]
  count-none (slot ∷ slots) zeroes (suc at) = count-none slots (omega (arith, count-cons slot slots)) at

  -- where some pass, there is one
  pub count-some : (slots : List (Option A)) → 0 < count_by test slots → (at : ℕ) × (test (get_or slots at None) ≡ true)
  count-some [] some = absurd (omega arith)
  count-some (slot ∷ slots) some =
      elim (cases_Bool (test slot)) [
        | inl e ↦ (0, e)
        | inr e ↦
            let none : told slot ≡ 0 = rw e refl in
            let later = count-some slots (omega (arith, none, count-cons slot slots)) in
            (suc later.0, later.1)
      ]

  -- no more pass than are there
  pub count-there : (slots : List (Option A)) → count_by test slots ≤ count_by is_some slots
  count-there [] = omega arith
  count-there (None ∷ slots) = omega (arith, none_told, count-cons None slots, count-there slots, sum_by-cons (λ o. cond (is_some o) 1 0) None slots)
  count-there (Some x ∷ slots) = omega (arith, at_most_one (test (Some x)), count-cons (Some x) slots, count-there slots, sum_by-cons (λ o. cond (is_some o) 1 0) (Some x) slots)
    where
      at_most_one : (b : Bool) → cond b 1 0 ≤ 1
      at_most_one true = omega arith
      at_most_one false = omega arith

module _ {A B : Type 0} (f : A → B) where
  pub mapped_at : (slots : List (Option A)) (at : ℕ) → get_or (map (option_map f) slots) at None ≡ option_map f (get_or slots at None)
  mapped_at [] at = refl
  mapped_at (slot ∷ slots) zero = refl
  mapped_at (slot ∷ slots) (suc at) = mapped_at slots at

  pub count-mapped : (slots : List (Option A)) → count_by is_some (map (option_map f) slots) ≡ count_by is_some slots
  count-mapped [] = refl
  count-mapped (None ∷ slots) = omega (arith, count-mapped slots, sum_by-cons (λ o. cond (is_some o) 1 0) None slots, sum_by-cons (λ o. cond (is_some o) 1 0) None (map (option_map f) slots))
  count-mapped (Some x ∷ slots) = omega (arith, count-mapped slots, sum_by-cons (λ o. cond (is_some o) 1 0) (Some x) slots, sum_by-cons (λ o. cond (is_some o) 1 0) (Some (f x)) (map (option_map f) slots))
