-- Slots of a slab: sums over them, and what kept programs name.
use Rattle.std.proofs.Common.{◌≡◌, ◌≢◌, ℕ, zero, suc, ◌+◌, ◌<◌, ◌≤◌, List, [], ◌∷◌, length, get_or, Option, Some, None, is_some, cond, count_by, refl, ap, arith}
use Rattle.std.specs.List.{sum_by}
use Rattle.std.proofs.lemmas.List.Sums.{sum_by-cons, get_or-le-sum_by}
use Rattle.waiting_programs.specs.declared.kept.Kept.{Kept}
use Rattle.waiting_programs.specs.Inner.Holds.{times, AreDistinct}
use Rattle.waiting_programs.specs.Inner.Sharing.{slots_of, named, stored_at}

pub within : {A : Type 0} (slots : List (Option A)) (at : ℕ) (x : A) → get_or slots at None ≡ Some x → at < length slots
within [] at x found = absurd (cc)
within (slot ∷ slots) zero x found = omega arith
within (slot ∷ slots) (suc at) x found = omega (arith, within slots at x found)

-- a number for each slot, which is 0 where there is nothing
module _ {A : Type 0} (f : Option A → ℕ) (empty : f None ≡ 0) where
  sum-same : (slots others : List (Option A)) → ((at : ℕ) → get_or slots at None ≡ get_or others at None) → sum_by f slots ≡ sum_by f others
  sum-same [] [] same = refl
  sum-same [] (slot ∷ others) same =
      omega (arith, empty, ap f (same 0), sum_by-cons f slot others, sum-same [] others (λ at. same (suc at)))
  sum-same (slot ∷ slots) [] same =
      omega (arith, empty, ap f (same 0), sum_by-cons f slot slots, sum-same slots [] (λ at. same (suc at)))
  sum-same (slot ∷ slots) (other ∷ others) same =
      omega (arith, ap f (same 0), sum_by-cons f slot slots, sum_by-cons f other others, sum-same slots others (λ at. same (suc at)))

  -- one slot changed: so does the sum
  pub sum-changed : (at : ℕ) (old new : List (Option A)) → ((other : ℕ) → other ≢ at → get_or new other None ≡ get_or old other None) → sum_by f new + f (get_or old at None) ≡ sum_by f old + f (get_or new at None)
  sum-changed at [] [] others = refl
  sum-changed zero [] (slot ∷ new) others =
      omega (arith, empty, sum_by-cons f slot new, sum-same new [] (λ at. others (suc at) (omega arith)))
  sum-changed zero (slot ∷ old) [] others =
      omega (arith, empty, sum_by-cons f slot old, sum-same [] old (λ at. others (suc at) (omega arith)))
  sum-changed zero (slot ∷ old) (other ∷ new) others =
      omega (arith, sum_by-cons f slot old, sum_by-cons f other new, sum-same new old (λ at. others (suc at) (omega arith)))
  sum-changed (suc at) [] (slot ∷ new) others =
      omega (arith, empty, ap f (others 0 (omega arith)), sum_by-cons f slot new, sum-changed at [] new (λ other differs. others (suc other) (omega (arith, differs))))
  sum-changed (suc at) (slot ∷ old) [] others =
      omega (arith, empty, ap f (others 0 (omega arith)), sum_by-cons f slot old, sum-changed at old [] (λ other differs. others (suc other) (omega (arith, differs))))
  sum-changed (suc at) (slot ∷ old) (other ∷ new) others =
      omega (arith, ap f (others 0 (omega arith)), sum_by-cons f slot old, sum_by-cons f other new, sum-changed at old new (λ other differs. others (suc other) (omega (arith, differs))))

-- a slot is named as often at least as one program names it
pub named_at : (kept : List (Option Kept)) (at : ℕ) (one : Kept) (slot : ℕ) → stored_at kept at ≡ Some one → times slot one.slots.items ≤ named kept slot
named_at kept at one slot found =
    omega (arith, get_or-le-sum_by (λ o. times slot (slots_of o)) kept at None (within kept at one found), ap (λ o. times slot (slots_of o)) found)

-- a slot is named no more often than there are programs, where none names it twice
pub named_few : (kept : List (Option Kept)) (slot : ℕ) → ((at : ℕ) (one : Kept) → stored_at kept at ≡ Some one → AreDistinct one.slots.items) → named kept slot ≤ count_by is_some kept
named_few [] slot once = omega arith
named_few (None ∷ kept) slot once =
    omega (arith, named_few kept slot (λ at. once (suc at)), sum_by-cons (λ o. times slot (slots_of o)) None kept, sum_by-cons (λ o. cond (is_some o) 1 0) None kept)
named_few (Some one ∷ kept) slot once =
    omega (arith, named_few kept slot (λ at. once (suc at)), once 0 one refl slot, sum_by-cons (λ o. times slot (slots_of o)) (Some one) kept, sum_by-cons (λ o. cond (is_some o) 1 0) (Some one) kept)
