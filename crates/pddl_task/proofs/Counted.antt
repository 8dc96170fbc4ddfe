-- The first item of which there are too many.
use Rattle.std.proofs.Common.{◌≡◌, ℕ, true, false, ◌<◌, ◌≤◌, ◌+◌, nat_lt, List, ◌∷◌, map, length, drop, get_or, Option, Some, None, find, option_map, cond, sym, ap, ◌∙◌, arith}
use Rattle.std.proofs.lemmas.Bool.Decides.{nat_tests}
use Rattle.std.proofs.lemmas.List.{drop_more, drop_all}

module _ {X R : Type 0} (told : ℕ → R) (max : ℕ) (count : X → ℕ) (xs : List X) where
  -- what is told of the items from a place on
  abbrev pub told_from : ℕ → Option R
  told_from i = option_map told (find (λ n. nat_lt max n) (map count (drop i xs)))

  opened : (i : ℕ) (x : X) → i < length xs → x ≡ get_or xs i x → told_from i ≡ option_map told (cond (nat_lt max (count x)) (Some (count x)) (find (λ n. nat_lt max n) (map count (drop (i + 1) xs))))
  opened i x within is = ap (λ l. option_map told (find (λ n. nat_lt max n) (map count l))) (drop_more xs i x within ∙ ap (λ y. y ∷ drop (i + 1) xs) (sym is))

  pub told_here : (i : ℕ) (x : X) → i < length xs → x ≡ get_or xs i x → max < count x → told_from i ≡ Some (told (count x))
  told_here i x within is many =
      let yes : nat_lt max (count x) ≡ true = grind (arith, nat_tests, many) in
      opened i x within is ∙ ap (λ b. option_map told (cond b (Some (count x)) (find (λ n. nat_lt max n) (map count (drop (i + 1) xs))))) yes

  pub told_later : (i : ℕ) (x : X) → i < length xs → x ≡ get_or xs i x → count x ≤ max → told_from i ≡ told_from (i + 1)
  told_later i x within is few =
      let no : nat_lt max (count x) ≡ false = grind (arith, nat_tests, few) in
      opened i x within is ∙ ap (λ b. option_map told (cond b (Some (count x)) (find (λ n. nat_lt max n) (map count (drop (i + 1) xs))))) no

  pub told_nothing : (i : ℕ) → length xs ≤ i → told_from i ≡ None
  told_nothing i long = ap (λ l. option_map told (find (λ n. nat_lt max n) (map count l))) (drop_all i xs long)
