-- Items of lists by their places.
use Rattle.std.proofs.Common.{◌≡◌, ℕ, zero, suc, ◌+◌, ◌⊎◌, List, [], ◌∷◌, ◌++◌, length, refl, ◌∙◌, inl, inr, ap, arith, map, Some, zero-add}
use Rattle.std.specs.List.{slice_get}

-- an item of the first list stands at the same place of both
pub slice_get-append_first : {X : Type 0} (xs ys : List X) (n : ℕ) (x : X) → slice_get xs n ≡ Some x → slice_get (xs ++ ys) n ≡ Some x
slice_get-append_first [] ys n x here = absurd (cc)
slice_get-append_first (y ∷ xs) ys zero x here = here
slice_get-append_first (y ∷ xs) ys (suc n) x here = slice_get-append_first xs ys n x here

-- an item of the second list stands behind the first
pub slice_get-append_second : {X : Type 0} (xs ys : List X) (n : ℕ) → slice_get (xs ++ ys) (length xs + n) ≡ slice_get ys n
slice_get-append_second [] ys n = ap (slice_get ys) (zero-add n)
slice_get-append_second (y ∷ xs) ys n =
    let shift : suc (length xs) + n ≡ suc (length xs + n) = omega arith in
    ap (slice_get (y ∷ xs ++ ys)) shift ∙ slice_get-append_second xs ys n

-- an item of two lists is one of the first or of the second
pub slice_get-append_cases : {X : Type 0} (xs ys : List X) (n : ℕ) (x : X) → slice_get (xs ++ ys) n ≡ Some x → (slice_get xs n ≡ Some x) ⊎ ((m : ℕ) × (n ≡ length xs + m) × (slice_get ys m ≡ Some x))
slice_get-append_cases [] ys n x here = inr (n, omega arith, here)
slice_get-append_cases (y ∷ xs) ys zero x here = inl here
slice_get-append_cases (y ∷ xs) ys (suc n) x here =
    elim (slice_get-append_cases xs ys n x here) [ inl first ↦ inl first | inr (m, place, second) ↦ inr (m, omega arith, second) ]

-- an item of a mapped list comes of one at the same place
pub slice_get-map_from : {X Y : Type 0} (f : X → Y) (xs : List X) (n : ℕ) (y : Y) → slice_get (map f xs) n ≡ Some y → (x : X) × (slice_get xs n ≡ Some x) × (f x ≡ y)
slice_get-map_from f [] n y here = absurd (cc)
slice_get-map_from f (x ∷ xs) zero y here = (x, refl, cc)
slice_get-map_from f (x ∷ xs) (suc n) y here = slice_get-map_from f xs n y here

pub slice_get-map_at : {X Y : Type 0} (f : X → Y) (xs : List X) (n : ℕ) (x : X) → slice_get xs n ≡ Some x → slice_get (map f xs) n ≡ Some (f x)
slice_get-map_at f [] n x here = absurd (cc)
slice_get-map_at f (y ∷ xs) zero x here = cc
slice_get-map_at f (y ∷ xs) (suc n) x here = slice_get-map_at f xs n x here
