-- What holds of each element of a list, and lists about a place.
use Rattle.std.proofs.Common.{◌≡◌, ℕ, zero, suc, ◌+◌, ◌<◌, List, [], ◌∷◌, ◌++◌, length, Some, take, drop, refl, ap, arith}
use Rattle.std.specs.Prelude.{slice_get}
use Rattle.std.specs.List.{AllByRecursion as Each}
use Rattle.std.proofs.lemmas.Option.{same_Some, none-some}

pub each_both : {X : Type 0} (P : X → Type 0) (xs ys : List X) → Each P xs → Each P ys → Each P (xs ++ ys)
each_both P [] ys h k = k
each_both P (x ∷ xs) ys h k = (h.0, each_both P xs ys h.1 k)

pub each_more : {X : Type 0} (P Q : X → Type 0) (xs : List X) → ((x : X) → P x → Q x) → Each P xs → Each Q xs
each_more P Q [] f h = tt
each_more P Q (x ∷ xs) f h = (f x h.0, each_more P Q xs f h.1)

-- the element at a place of a list
pub read_at : {X : Type 0} (xs : List X) (i : ℕ) → i < length xs → (x : X) × (slice_get xs i ≡ Some x)
read_at [] i h = absurd (omega arith)
read_at (x ∷ xs) zero h = (x, refl)
read_at (x ∷ xs) (suc i) h = read_at xs i (omega arith)

-- a list is what stands before a place, the element there, and the rest
split_from : {X : Type 0} (xs : List X) (i next : ℕ) (x : X) → next ≡ i + 1 → slice_get xs i ≡ Some x → xs ≡ take i xs ++ x ∷ drop next xs
split_from [] i next x e here = absurd (none-some x here)
split_from (y ∷ ys) zero next x e here =
    let one : next ≡ 1 = omega arith in
    rw (one, same_Some y x here) refl
split_from (y ∷ ys) (suc i) zero x e here = absurd (omega arith)
split_from (y ∷ ys) (suc i) (suc next) x e here = ap (λ zs. y ∷ zs) (split_from ys i next x (omega arith) here)

pub split_at : {X : Type 0} (xs : List X) (i : ℕ) (x : X) → slice_get xs i ≡ Some x → xs ≡ take i xs ++ x ∷ drop (i + 1) xs
split_at xs i x here = split_from xs i (i + 1) x refl here
