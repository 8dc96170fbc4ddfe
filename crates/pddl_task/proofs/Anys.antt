-- Some item of a list, and of a list that is appended.
use Rattle.std.proofs.Common.{◌≡◌, ℕ, zero, suc, ◌<◌, List, [], ◌∷◌, ◌++◌, length, get_or, refl, sym, subst, inl, inr, ◌⊎◌, arith}
use Rattle.std.specs.Prelude.{Any}

pub any_here : {X : Type 0} (P : X → Type 0) (x : X) (xs : List X) → P x → Any P (x ∷ xs)
any_here P x xs has = (zero, x, omega arith, refl, has)

pub any_later : {X : Type 0} (P : X → Type 0) (x : X) (xs : List X) → Any P xs → Any P (x ∷ xs)
any_later P x xs some = (suc some.0, some.1, (let less = some.2 in omega (arith, less)), some.3, some.4)

pub any_cases : {X : Type 0} (P : X → Type 0) (x : X) (xs : List X) → Any P (x ∷ xs) → P x ⊎ Any P xs
any_cases P x xs some = by some.0 some.1 some.2 some.3 some.4
  where
    by : (k : ℕ) (y : _) → k < length (x ∷ xs) → get_or (x ∷ xs) k y ≡ y → P y → P x ⊎ Any P xs
    by zero y within is has = inl (subst P (sym is) has)
    by (suc k) y within is has = inr (k, y, omega (arith, within), is, has)

pub any_none : {X : Type 0} (P : X → Type 0) → Any P [] → ⊥
any_none P some = let less = some.2 in absurd (omega (arith, less))

pub any_split : {X : Type 0} (P : X → Type 0) (xs ys : List X) → Any P (xs ++ ys) → Any P xs ⊎ Any P ys
any_split P [] ys some = inr some
any_split P (x ∷ xs) ys some = elim (any_cases P x (xs ++ ys) some) [
  | inl here ↦ inl (any_here P x xs here)
  | inr rest ↦ elim (any_split P xs ys rest) [ inl front ↦ inl (any_later P x xs front) | inr back ↦ inr back ]
]

pub any_left : {X : Type 0} (P : X → Type 0) (xs ys : List X) → Any P xs → Any P (xs ++ ys)
any_left P [] ys some = absurd (any_none P some)
any_left P (x ∷ xs) ys some = elim (any_cases P x xs some) [
  | inl here ↦ any_here P x (xs ++ ys) here
  | inr rest ↦ any_later P x (xs ++ ys) (any_left P xs ys rest)
]

pub any_right : {X : Type 0} (P : X → Type 0) (xs ys : List X) → Any P ys → Any P (xs ++ ys)
any_right P [] ys some = some
any_right P (x ∷ xs) ys some = any_later P x (xs ++ ys) (any_right P xs ys some)

pub any_one : {X : Type 0} (P : X → Type 0) (x : X) → Any P (x ∷ []) → P x
any_one P x some = elim (any_cases P x [] some) [ inl here ↦ here | inr rest ↦ absurd (any_none P rest) ]

-- what some item has gives what some item has
pub any_weaker : {X : Type 0} (P Q : X → Type 0) (xs : List X) → ((x : X) → P x → Q x) → Any P xs → Any Q xs
any_weaker P Q xs then some = (some.0, some.1, some.2, some.3, then some.1 some.4)
