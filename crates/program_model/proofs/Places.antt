-- Lists by place: `slice_get` of joined lists, ranges and written lists.
use Rattle.std.proofs.Common.{◌≡◌, ◌≢◌, ℕ, zero, suc, ◌+◌, ◌<◌, List, [], ◌∷◌, ◌++◌, length, set, replicate, Some, refl, ◌∙◌, ap, arith}
use Rattle.std.specs.Prelude.{slice_get, Contains}
use Rattle.std.specs.List.{range_with_len}
use Rattle.std.proofs.lemmas.Option.{slice_get-get_or, slice_get_within, get_or_from_slice_get}

pub get-append_left : {X : Type 0} (xs ys : List X) (i : ℕ) → i < length xs → slice_get (xs ++ ys) i ≡ slice_get xs i
get-append_left [] ys i h = absurd (omega arith)
get-append_left (x ∷ xs) ys zero h = refl
get-append_left (x ∷ xs) ys (suc i) h = get-append_left xs ys i (omega arith)

pub get-append_right : {X : Type 0} (xs ys : List X) (i j : ℕ) → j ≡ length xs + i → slice_get (xs ++ ys) j ≡ slice_get ys i
get-append_right [] ys i j e = let same : j ≡ i = omega arith in ap (slice_get ys) same
get-append_right (x ∷ xs) ys i zero e = absurd (omega arith)
get-append_right (x ∷ xs) ys i (suc j) e = get-append_right xs ys i j (omega arith)

pub get-range : (from count i : ℕ) → i < count → slice_get (range_with_len from count) i ≡ Some (from + i)
get-range from zero i h = absurd (omega arith)
get-range from (suc count) zero h = ap Some (omega arith)
get-range from (suc count) (suc i) h = get-range (from + 1) count i (omega arith) ∙ ap Some (omega arith)

pub get-set_same : {X : Type 0} (xs : List X) (i : ℕ) (x : X) → i < length xs → slice_get (set xs i x) i ≡ Some x
get-set_same [] i x h = absurd (omega arith)
get-set_same (y ∷ ys) zero x h = refl
get-set_same (y ∷ ys) (suc i) x h = get-set_same ys i x (omega arith)

pub get-set_other : {X : Type 0} (xs : List X) (i j : ℕ) (x : X) → j ≢ i → slice_get (set xs i x) j ≡ slice_get xs j
get-set_other [] i j x h = refl
get-set_other (y ∷ ys) zero zero x h = absurd (h refl)
get-set_other (y ∷ ys) zero (suc j) x h = refl
get-set_other (y ∷ ys) (suc i) zero x h = refl
get-set_other (y ∷ ys) (suc i) (suc j) x h = get-set_other ys i j x (λ e. h (ap suc e))

pub get-replicate : {X : Type 0} (n i : ℕ) (x : X) → i < n → slice_get (replicate n x) i ≡ Some x
get-replicate zero i x h = absurd (omega arith)
get-replicate (suc n) zero x h = refl
get-replicate (suc n) (suc i) x h = get-replicate n i x (omega arith)

-- membership, by a place
pub contains_at : {X : Type 0} (xs : List X) (i : ℕ) (x : X) → slice_get xs i ≡ Some x → Contains xs x
contains_at xs i x e = (i, slice_get_within xs i x e, get_or_from_slice_get xs i x x e)

pub at_contains : {X : Type 0} (xs : List X) (x : X) → Contains xs x → (i : ℕ) × (slice_get xs i ≡ Some x)
at_contains xs x h = (h.0, slice_get-get_or xs h.0 x h.1 ∙ ap Some h.2)
