-- The first words, each known by its place.
use Rattle.std.proofs.Common.{◌≡◌, ℕ, ◌+◌, ◌-◌, ◌<◌, ◌≤◌, List, ◌∷◌, map, take, drop, length, get_or, sym, ◌∙◌, ap, arith}
use Rattle.std.proofs.lemmas.List.{drop_more, take_rest}

next : {X Y : Type 0} (f : X → Y) (xs : List X) (i : ℕ) (x : X) → i < length xs → x ≡ get_or xs i x → map f (drop i xs) ≡ f x ∷ map f (drop (i + 1) xs)
next f xs i x within is = ap (map f) (drop_more xs i x within) ∙ ap (λ y. f y ∷ map f (drop (i + 1) xs)) (sym is)

-- the first word and the others
pub first_word : {X Y : Type 0} (f : X → Y) (xs : List X) (a : X) → 1 ≤ length xs → a ≡ get_or xs 0 a → map f xs ≡ f a ∷ map f (take (length xs - 1) (drop 1 xs))
first_word f xs a long at0 =
    next f xs 0 a (omega (arith, long)) at0 ∙ ap (λ l. f a ∷ map f l) (sym (take_rest xs 1))
