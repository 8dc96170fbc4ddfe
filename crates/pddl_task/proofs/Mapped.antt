-- Tests of the items of a list and of what is made of them.
use Rattle.std.proofs.Common.{◌≡◌, ℕ, ◌≤◌, nat_lt, Some, None, unwrap_or, Bool, true, false, cond, ◌||◌, ◌+◌, List, [], ◌∷◌, ◌++◌, map, length, not, refl, ap, arith}
use Rattle.std.proofs.lemmas.Bool.Decides.{nat_tests}
use Rattle.std.proofs.lemmas.List.{length-map}
use Rattle.std.proofs.lemmas.List.Sums.{prefix_len-le-length}
use Rattle.std.specs.List.{position, list_any, prefix_len, position_or_len}

pub any_mapped : {X Y : Type 0} (p : Y → Bool) (f : X → Y) (xs : List X) → list_any p (map f xs) ≡ list_any (λ x. p (f x)) xs
any_mapped p f [] = refl
any_mapped p f (x ∷ xs) = ap (λ rest. p (f x) || rest) (any_mapped p f xs)

pub prefix_mapped : {X Y : Type 0} (p : Y → Bool) (f : X → Y) (xs : List X) → prefix_len p (map f xs) ≡ prefix_len (λ x. p (f x)) xs
prefix_mapped p f [] = refl
prefix_mapped p f (x ∷ xs) = ap (λ rest. cond (p (f x)) (1 + rest) 0) (prefix_mapped p f xs)

pub map-append : {X Y : Type 0} (f : X → Y) (xs ys : List X) → map f (xs ++ ys) ≡ map f xs ++ map f ys
map-append f [] ys = refl
map-append f (x ∷ xs) ys = ap (λ rest. f x ∷ rest) (map-append f xs ys)

pub place_mapped : {X Y : Type 0} (p : Y → Bool) (f : X → Y) (xs : List X) → position p (map f xs) ≡ position (λ x. p (f x)) xs
place_mapped p f xs = rw (length-map xs f, prefix_mapped (λ y. not (p y)) f xs) refl

-- the place, or how many items there are where there is none
pub place_or_len : {X : Type 0} (p : X → Bool) (xs : List X) → unwrap_or (position p xs) (length xs) ≡ position_or_len p xs
place_or_len p xs = by (nat_lt (position_or_len p xs) (length xs)) refl (prefix_len-le-length (λ x. not (p x)) xs)
  where
    by : {n m : ℕ} (b : Bool) → nat_lt n m ≡ b → n ≤ m → unwrap_or (cond b (Some n) None) m ≡ n
    by true less within = refl
    by false less within = grind (arith, nat_tests, less)
