-- Lists of slots, and what stands in them.
use Rattle.std.proofs.Common.{◌≡◌, ◌≢◌, ℕ, zero, suc, ◌<◌, List, [], ◌∷◌, length, get_or, map, Option, Some, None, is_some, cond, count_by, refl, subst, arith, All, IsPermutation}
use Rattle.std.specs.List.{filter_map}
use Rattle.std.specs.Option.{option_map}
use Rattle.std.proofs.lemmas.List.Elements.{All-nil, All-cons, All-head, All-tail}
use Rattle.std.proofs.lemmas.List.Sorted.{IsPermutation-refl, IsPermutation-sym, IsPermutation-trans, IsPermutation-cons, IsPermutation-middle}
use Rattle.std.proofs.lemmas.List.Sums.{sum_by-cons}

-- the values in slots, in order
abbrev pub somes : {A : Type 0} → List (Option A) → List A
somes slots = filter_map (λ slot. slot) slots

module _ {A : Type 0} where
  pub within : (slots : List (Option A)) (at : ℕ) (x : A) → get_or slots at None ≡ Some x → at < length slots
  within [] at x found = absurd (cc)
  within (slot ∷ slots) zero x found = omega arith
  within (slot ∷ slots) (suc at) x found = omega (arith, within slots at x found)

  somes-same : (slots others : List (Option A)) → ((at : ℕ) → get_or slots at None ≡ get_or others at None) → somes slots ≡ somes others
  somes-same [] [] same = refl
  somes-same [] (None ∷ others) same = somes-same [] others (λ at. same (suc at))
  somes-same [] (Some y ∷ others) same = let e : None ≡ Some y = same 0 in absurd (cc)
  somes-same (None ∷ slots) [] same = somes-same slots [] (λ at. same (suc at))
  somes-same (Some x ∷ slots) [] same = let e : Some x ≡ None = same 0 in absurd (cc)
  somes-same (None ∷ slots) (None ∷ others) same = somes-same slots others (λ at. same (suc at))
  somes-same (None ∷ slots) (Some y ∷ others) same = let e : None ≡ Some y = same 0 in absurd (cc)
  somes-same (Some x ∷ slots) (None ∷ others) same = let e : Some x ≡ None = same 0 in absurd (cc)
  somes-same (Some x ∷ slots) (Some y ∷ others) same =
      let e : Some x ≡ Some y = same 0 in
      let rest = somes-same slots others (λ at. same (suc at)) in
      cc

  -- one slot more has a value, and all others are the same: the values are the same but for this one
  pub somes-added : (at : ℕ) (old new : List (Option A)) (x : A) → get_or old at None ≡ None → get_or new at None ≡ Some x → ((other : ℕ) → other ≢ at → get_or new other None ≡ get_or old other None) → IsPermutation (x ∷ somes old) (somes new)
  somes-added at old [] x vacant found others = absurd (cc)
  somes-added zero old (None ∷ new) x vacant found others = absurd (cc)
  somes-added zero [] (Some y ∷ new) x vacant found others =
      let rest : somes new ≡ [] = somes-same new [] (λ at. others (suc at) (omega arith)) in
      let same : x ∷ [] ≡ y ∷ somes new = cc in
      rw (← same) (IsPermutation-refl (x ∷ []))
  somes-added zero (None ∷ old) (Some y ∷ new) x vacant found others =
      let rest : somes new ≡ somes old = somes-same new old (λ at. others (suc at) (omega arith)) in
      let same : x ∷ somes old ≡ y ∷ somes new = cc in
      rw (← same) (IsPermutation-refl (x ∷ somes old))
  somes-added zero (Some z ∷ old) (Some y ∷ new) x vacant found others = absurd (cc)
  somes-added (suc at) [] (None ∷ new) x vacant found others =
      somes-added at [] new x refl found (λ other differs. others (suc other) (omega arith))
  somes-added (suc at) [] (Some y ∷ new) x vacant found others = let e : Some y ≡ None = others 0 (omega arith) in absurd (cc)
  somes-added (suc at) (None ∷ old) (None ∷ new) x vacant found others =
      somes-added at old new x vacant found (λ other differs. others (suc other) (omega arith))
  somes-added (suc at) (None ∷ old) (Some y ∷ new) x vacant found others = let e : Some y ≡ None = others 0 (omega arith) in absurd (cc)
  somes-added (suc at) (Some z ∷ old) (None ∷ new) x vacant found others = let e : None ≡ Some z = others 0 (omega arith) in absurd (cc)
  somes-added (suc at) (Some z ∷ old) (Some y ∷ new) x vacant found others =
      let e : Some y ≡ Some z = others 0 (omega arith) in
      let same : z ≡ y = cc in
      let rest = somes-added at old new x vacant found (λ other differs. others (suc other) (omega arith)) in
      let turned = IsPermutation-sym _ _ (IsPermutation-middle (z ∷ []) x (somes old)) in
      rw (← same) (IsPermutation-trans (x ∷ z ∷ somes old) (z ∷ x ∷ somes old) (z ∷ somes new) turned (IsPermutation-cons z _ _ rest))

  -- what holds of the value in each slot holds of all values
  pub All-somes : (P : A → Type 0) (slots : List (Option A)) → ((at : ℕ) (x : A) → get_or slots at None ≡ Some x → P x) → All P (somes slots)
  All-somes P [] each = All-nil P
  All-somes P (None ∷ slots) each = All-somes P slots (λ at x found. each (suc at) x found)
  All-somes P (Some y ∷ slots) each = All-cons P y (somes slots) (each 0 y refl) (All-somes P slots (λ at x found. each (suc at) x found))

  pub somes-All : (P : A → Type 0) (slots : List (Option A)) → All P (somes slots) → (at : ℕ) (x : A) → get_or slots at None ≡ Some x → P x
  somes-All P [] all at x found = absurd (cc)
  somes-All P (None ∷ slots) all zero x found = absurd (cc)
  somes-All P (None ∷ slots) all (suc at) x found = somes-All P slots all at x found
  somes-All P (Some y ∷ slots) all zero x found = let same : y ≡ x = cc in subst P same (All-head P y (somes slots) all)
  somes-All P (Some y ∷ slots) all (suc at) x found = somes-All P slots (All-tail P y (somes slots) all) at x found

  pub length-somes : (slots : List (Option A)) → length (somes slots) ≡ count_by is_some slots
  length-somes [] = refl
  length-somes (None ∷ slots) = omega (arith, length-somes slots, sum_by-cons (λ o. cond (is_some o) 1 0) None slots)
  length-somes (Some x ∷ slots) = omega (arith, length-somes slots, sum_by-cons (λ o. cond (is_some o) 1 0) (Some x) slots)

module _ {A B : Type 0} (f : A → B) where
  pub mapped_at : (slots : List (Option A)) (at : ℕ) → get_or (map (option_map f) slots) at None ≡ option_map f (get_or slots at None)
  mapped_at [] at = refl
  mapped_at (slot ∷ slots) zero = refl
  mapped_at (slot ∷ slots) (suc at) = mapped_at slots at

  pub count-mapped : (slots : List (Option A)) → count_by is_some (map (option_map f) slots) ≡ count_by is_some slots
  count-mapped [] = refl
  count-mapped (None ∷ slots) = omega (arith, count-mapped slots, sum_by-cons (λ o. cond (is_some o) 1 0) None slots, sum_by-cons (λ o. cond (is_some o) 1 0) None (map (option_map f) slots))
  count-mapped (Some x ∷ slots) = omega (arith, count-mapped slots, sum_by-cons (λ o. cond (is_some o) 1 0) (Some x) slots, sum_by-cons (λ o. cond (is_some o) 1 0) (Some (f x)) (map (option_map f) slots))
