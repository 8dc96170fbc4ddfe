-- Lists that are changed at one place: what holds of each element at its place; and the front of a list that is a stack.
use Rattle.std.proofs.Common.{◌≡◌, ℕ, ◌+◌, ◌<◌, ◌≤◌, List, [], ◌∷◌, ◌++◌, length, take, set, get_or, sym, ◌∙◌, subst, inl, inr, arith}
use Rattle.std.proofs.lemmas.Bool.{cases_eq}
use Rattle.std.proofs.lemmas.Grind.{get_or-set_at}
use Rattle.std.proofs.lemmas.List.{get_or-set_other, get_or_append_left, get_or-take, length-take-le, take-set, take-take, take_more_set}
use Rattle.std.proofs.Math.Seq.{take-set-lt, get_or-append_seam}

module _ {X : Type 0} (P : ℕ → X → Type 0) (xs : List X) where
  -- what holds of each of the first elements at its place
  abbrev pub Each : ℕ → Type 0
  Each n = (j : ℕ) (d : X) → j < n → P j (get_or xs j d)

  -- holds where one is replaced by one of which it holds
  pub each_set : (n i : ℕ) (y : X) → n ≤ length xs → Each n → P i y → (j : ℕ) (d : X) → j < n → P j (get_or (set xs i y) j d)
  each_set n i y within each here j d less = elim (cases_eq j i) [
    | inl same ↦ subst (P j) (sym (get_or-set_at xs i j y d same (omega arith))) (subst (λ (k : ℕ). P k y) (sym same) here)
    | inr other ↦ subst (P j) (sym (get_or-set_other xs i j y d other)) (each j d less)
  ]

  -- and of one more, where that one is replaced by one of which it holds
  pub each_more : (i : ℕ) (y : X) → i < length xs → Each i → P i y → (j : ℕ) (d : X) → j < i + 1 → P j (get_or (set xs i y) j d)
  each_more i y within each here j d less = elim (cases_eq j i) [
    | inl same ↦ subst (P j) (sym (get_or-set_at xs i j y d same within)) (subst (λ (k : ℕ). P k y) (sym same) here)
    | inr other ↦ subst (P j) (sym (get_or-set_other xs i j y d other)) (each j d (omega arith))
  ]

  -- or added at the end
  pub each_push : (n : ℕ) (y : X) → length xs ≡ n → Each n → P n y → (j : ℕ) (d : X) → j < n + 1 → P j (get_or (xs ++ y ∷ []) j d)
  each_push n y size each here j d less = elim (cases_eq j n) [
    | inl same ↦
        let at_end : length xs ≡ j = omega arith in
        subst (P j) (sym (subst (λ (k : ℕ). get_or (xs ++ y ∷ []) k d ≡ y) at_end (get_or-append_seam xs y [] d))) (subst (λ (k : ℕ). P k y) (sym same) here)
    | inr other ↦ subst (P j) (sym (get_or_append_left xs (y ∷ []) d j (omega arith))) (each j d (omega arith))
  ]

module _ {X : Type 0} (items : List X) (depth : ℕ) where
  pub front_size : depth ≤ length items → length (take depth items) ≡ depth
  front_size within = length-take-le depth items within

  pub front_at : (i : ℕ) (d : X) → i < depth → get_or (take depth items) i d ≡ get_or items i d
  front_at i d less = get_or-take depth items i d less

  pub front_set : (i : ℕ) (y : X) → i < depth → take depth (set items i y) ≡ set (take depth items) i y
  front_set i y less = take-set-lt depth items i y less

  pub front_push : (y : X) → depth < length items → take (depth + 1) (set items depth y) ≡ take depth items ++ y ∷ []
  front_push y less = take_more_set items depth y less

  -- the front without its last element
  pub front_pop : (last : ℕ) (y : X) → last + 1 ≡ depth → take last (set (take depth items) last y) ≡ take last (set items last y)
  front_pop last y size = take-set (take depth items) last y ∙ take-take last depth items (omega arith) ∙ sym (take-set items last y)
