-- How many words of a typed list stand up to the last one with a type.
use Rattle.std.proofs.Common.{◌≡◌, ℕ, ◌+◌, ◌≤◌, nat_lt, nat_le, Bool, true, false, ◌||◌, List, [], ◌∷◌, ◌++◌, length, drop, refl, sym, ap, ◌∙◌, arith, length-append}
use Rattle.std.specs.List.{list_any}
use Rattle.std.proofs.lemmas.Bool.Decides.{nat_tests}
use Rattle.std.proofs.lemmas.List.{drop-append-le, drop_all}
use Rattle.std.proofs.lemmas.List.Folds.{list_any-append}

-- some item passes a test from each place below a count on, and from no other place
abbrev pub Counts : {X : Type 0} → (X → Bool) → List X → ℕ → Type 0
Counts p xs count = (k : ℕ) → list_any p (drop k xs) ≡ nat_lt k count

-- one more item counts where it passes
pub counts_more : {X : Type 0} (p : X → Bool) (xs : List X) (x : X) (count next : ℕ) → count ≤ length xs → Counts p xs count → (p x ≡ true → next ≡ length xs + 1) → (p x ≡ false → next ≡ count) → Counts p (xs ++ x ∷ []) next
counts_more {X} p xs x count next within counts passes fails = λ k. by k (p x) refl (nat_le k (length xs)) refl
  where
    late : (k : ℕ) (b : Bool) → (b ≡ true → next ≡ length xs + 1) → (b ≡ false → next ≡ count) → nat_le k (length xs) ≡ false → nat_lt k next ≡ false
    late k true some none above = let e : next ≡ length xs + 1 = some refl in grind (arith, nat_tests)
    late k false some none above = let e : next ≡ count = none refl in grind (arith, nat_tests)

    early : (k : ℕ) (b : Bool) → (b ≡ true → next ≡ length xs + 1) → (b ≡ false → next ≡ count) → nat_le k (length xs) ≡ true → (nat_lt k count || (b || false)) ≡ nat_lt k next
    early k true some none below = let e : next ≡ length xs + 1 = some refl in grind (arith, nat_tests)
    early k false some none below = let e : next ≡ count = none refl in grind (arith, nat_tests)

    by : (k : ℕ) (b : Bool) → p x ≡ b → (low : Bool) → nat_le k (length xs) ≡ low → list_any p (drop k (xs ++ x ∷ [])) ≡ nat_lt k next
    by k b is true below =
        let fits : k ≤ length xs = grind (arith, nat_tests) in
        ap (list_any p) (drop-append-le k xs (x ∷ []) fits) ∙ list_any-append p (drop k xs) (x ∷ []) ∙ ap (λ some. some || (p x || false)) (counts k) ∙ early k (p x) passes fails below
    by k b is false above =
        let past : length (xs ++ x ∷ []) ≤ k = simp (length-append {A = X}) (grind (arith, nat_tests)) in
        ap (list_any p) (drop_all k (xs ++ x ∷ []) past) ∙ sym (late k (p x) passes fails above)
