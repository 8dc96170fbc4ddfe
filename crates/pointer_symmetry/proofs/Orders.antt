-- Lists in which numbers stand before others: none twice, rising, and each where it first stands.
use Rattle.std.proofs.Common.{◌≡◌, ◌≢◌, ℕ, zero, suc, ◌+◌, ◌<◌, ◌≤◌, Bool, true, false, not, cond, ◌⊎◌, List, [], ◌∷◌, ◌++◌, length, map, Some, None, refl, sym, ◌∙◌, ap, subst, inl, inr, arith}
use Rattle.std.specs.Prelude.{◌==◌, slice_get}
use Rattle.std.specs.List.{filter, position_from, range_with_len}
use Rattle.std.proofs.lemmas.Bool.{cases_order, eq-eqb, eqb-true, true≢false}
use Rattle.std.proofs.lemmas.Option.{none-some, same_Some}
use Rattle.pointer_symmetry.specs.Twins.{first_of_each}

-- ---- membership

abbrev pub In : List ℕ → ℕ → Type 0
In [] x = ⊥
In (y ∷ ys) x = (y ≡ x) ⊎ In ys x

pub in_at : (xs : List ℕ) (x : ℕ) → In xs x → (i : ℕ) × (slice_get xs i ≡ Some x)
in_at [] x h = absurd h
in_at (y ∷ ys) x (inl e) = (0, ap Some e)
in_at (y ∷ ys) x (inr h) = let found = in_at ys x h in (suc found.0, found.1)

pub at_in : (xs : List ℕ) (i x : ℕ) → slice_get xs i ≡ Some x → In xs x
at_in [] i x e = absurd (none-some x e)
at_in (y ∷ ys) zero x e = inl (same_Some y x e)
at_in (y ∷ ys) (suc i) x e = inr (at_in ys i x e)

pub in_left : (xs ys : List ℕ) (x : ℕ) → In xs x → In (xs ++ ys) x
in_left [] ys x h = absurd h
in_left (y ∷ xs) ys x (inl e) = inl e
in_left (y ∷ xs) ys x (inr h) = inr (in_left xs ys x h)

pub in_right : (xs ys : List ℕ) (x : ℕ) → In ys x → In (xs ++ ys) x
in_right [] ys x h = h
in_right (y ∷ xs) ys x h = inr (in_right xs ys x h)

pub in_either : (xs ys : List ℕ) (x : ℕ) → In (xs ++ ys) x → In xs x ⊎ In ys x
in_either [] ys x h = inr h
in_either (y ∷ xs) ys x (inl e) = inl (inl e)
in_either (y ∷ xs) ys x (inr h) = elim (in_either xs ys x h) [ inl k ↦ inl (inr k) | inr k ↦ inr k ]

pub same_or_other : (y x : ℕ) → (y ≡ x) ⊎ (y ≢ x)
same_or_other y x = elim (cases_order y x) [
  | inl e ↦ inl e
  | inr o ↦ inr (λ e. elim o [ inl h ↦ omega arith | inr h ↦ omega arith ])
]

pub in_map : (f : ℕ → ℕ) (xs : List ℕ) (x : ℕ) → In xs x → In (map f xs) (f x)
in_map f [] x h = absurd h
in_map f (y ∷ ys) x (inl e) = inl (ap f e)
in_map f (y ∷ ys) x (inr h) = inr (in_map f ys x h)

pub map_in : (f : ℕ → ℕ) (xs : List ℕ) (x : ℕ) → In (map f xs) x → (y : ℕ) × In xs y × (f y ≡ x)
map_in f [] x h = absurd h
map_in f (y ∷ ys) x (inl e) = (y, inl refl, e)
map_in f (y ∷ ys) x (inr h) = let found = map_in f ys x h in (found.0, inr found.1, found.2)

-- whether a number stands in a list
pub in_or_out : (xs : List ℕ) (x : ℕ) → In xs x ⊎ (In xs x → ⊥)
in_or_out [] x = inr (λ h. h)
in_or_out (y ∷ ys) x = elim (same_or_other y x) [
  | inl e ↦ inl (inl e)
  | inr d ↦ elim (in_or_out ys x) [
    | inl h ↦ inl (inr h)
    | inr n ↦ inr (λ h. elim h [ inl e ↦ d e | inr k ↦ n k ])
  ]
]

-- ---- filters

pub either_test : (b : Bool) → (b ≡ true) ⊎ (b ≡ false)
either_test true = inl refl
either_test false = inr refl

pub filter_yes : (test : ℕ → Bool) (y : ℕ) (ys : List ℕ) → test y ≡ true → filter test (y ∷ ys) ≡ y ∷ filter test ys
filter_yes test y ys h = ap (λ b. cond b (y ∷ filter test ys) (filter test ys)) h

pub filter_no : (test : ℕ → Bool) (y : ℕ) (ys : List ℕ) → test y ≡ false → filter test (y ∷ ys) ≡ filter test ys
filter_no test y ys h = ap (λ b. cond b (y ∷ filter test ys) (filter test ys)) h

pub in_filter : (test : ℕ → Bool) (xs : List ℕ) (x : ℕ) → In xs x → test x ≡ true → In (filter test xs) x
in_filter test [] x h passes = absurd h
in_filter test (y ∷ ys) x (inl e) passes = subst (λ zs. In zs x) (sym (filter_yes test y ys (ap test e ∙ passes))) (inl e)
in_filter test (y ∷ ys) x (inr h) passes = elim (either_test (test y)) [
  | inl k ↦ subst (λ zs. In zs x) (sym (filter_yes test y ys k)) (inr (in_filter test ys x h passes))
  | inr k ↦ subst (λ zs. In zs x) (sym (filter_no test y ys k)) (in_filter test ys x h passes)
]

pub filter_in : (test : ℕ → Bool) (xs : List ℕ) (x : ℕ) → In (filter test xs) x → In xs x × (test x ≡ true)
filter_in test [] x h = absurd h
filter_in test (y ∷ ys) x h = elim (either_test (test y)) [
  | inl k ↦ elim (subst (λ zs. In zs x) (filter_yes test y ys k) h) [
    | inl e ↦ (inl e, ap test (sym e) ∙ k)
    | inr m ↦ let found = filter_in test ys x m in (inr found.0, found.1)
  ]
  | inr k ↦ let found = filter_in test ys x (subst (λ zs. In zs x) (filter_no test y ys k) h) in (inr found.0, found.1)
]

pub filter-append : (test : ℕ → Bool) (xs ys : List ℕ) → filter test (xs ++ ys) ≡ filter test xs ++ filter test ys
filter-append test [] ys = refl
filter-append test (x ∷ xs) ys = elim (either_test (test x)) [
  | inl k ↦ filter_yes test x (xs ++ ys) k ∙ ap (λ zs. x ∷ zs) (filter-append test xs ys) ∙ ap (λ zs. zs ++ filter test ys) (sym (filter_yes test x xs k))
  | inr k ↦ filter_no test x (xs ++ ys) k ∙ filter-append test xs ys ∙ ap (λ zs. zs ++ filter test ys) (sym (filter_no test x xs k))
]

-- ---- what stands before what

-- x stands before y
abbrev pub Before : List ℕ → ℕ → ℕ → Type 0
Before [] x y = ⊥
Before (z ∷ zs) x y = ((z ≡ x) × In zs y) ⊎ Before zs x y

pub before_at : (xs : List ℕ) (i j x y : ℕ) → slice_get xs i ≡ Some x → slice_get xs j ≡ Some y → i < j → Before xs x y
before_at [] i j x y d e lt = absurd (none-some x d)
before_at (z ∷ zs) i zero x y d e lt = absurd (omega arith)
before_at (z ∷ zs) zero (suc j) x y d e lt = inl (same_Some z x d, at_in zs j y e)
before_at (z ∷ zs) (suc i) (suc j) x y d e lt = inr (before_at zs i j x y d e (omega arith))

pub before_in : (xs : List ℕ) (x y : ℕ) → Before xs x y → In xs x × In xs y
before_in [] x y h = absurd h
before_in (z ∷ zs) x y (inl h) = (inl h.0, inr h.1)
before_in (z ∷ zs) x y (inr h) = let found = before_in zs x y h in (inr found.0, inr found.1)

pub filter_before : (test : ℕ → Bool) (xs : List ℕ) (x y : ℕ) → Before (filter test xs) x y → Before xs x y
filter_before test [] x y h = absurd h
filter_before test (z ∷ zs) x y h = elim (either_test (test z)) [
  | inl k ↦ elim (subst (λ ws. Before ws x y) (filter_yes test z zs k) h) [
    | inl b ↦ inl (b.0, (filter_in test zs y b.1).0)
    | inr b ↦ inr (filter_before test zs x y b)
  ]
  | inr k ↦ inr (filter_before test zs x y (subst (λ ws. Before ws x y) (filter_no test z zs k) h))
]

-- ---- lists in which nothing stands twice

abbrev pub IsDistinct : List ℕ → Type 0
IsDistinct xs = (x : ℕ) → Before xs x x → ⊥

pub one_place : (xs : List ℕ) (i j x : ℕ) → IsDistinct xs → slice_get xs i ≡ Some x → slice_get xs j ≡ Some x → i ≡ j
one_place xs i j x distinct d e = elim (cases_order i j) [
  | inl same ↦ same
  | inr o ↦ elim o [
    | inl lt ↦ absurd (distinct x (before_at xs i j x x d e lt))
    | inr lt ↦ absurd (distinct x (before_at xs j i x x e d lt))
  ]
]

-- a number passes the test on being another one
other_passes : (x y : ℕ) → x ≢ y → not (x == y) ≡ true
other_passes x y d = elim (either_test (x == y)) [ inl k ↦ absurd (d (eqb-true x y k)) | inr k ↦ ap not k ]

none_passes_itself : (x y : ℕ) → x ≡ y → not (x == y) ≡ true → ⊥
none_passes_itself x y e h = true≢false (sym h ∙ ap not (eq-eqb x y e))

-- the list without a number is shorter by it
filter_shorter : (test : ℕ → Bool) (xs : List ℕ) → length (filter test xs) ≤ length xs
filter_shorter test [] = omega arith
filter_shorter test (x ∷ xs) =
    let rest = filter_shorter test xs in
    elim (either_test (test x)) [
      | inl k ↦ let e = ap (length {A = ℕ}) (filter_yes test x xs k) in omega arith
      | inr k ↦ let e = ap (length {A = ℕ}) (filter_no test x xs k) in omega arith
    ]

one_less : (xs : List ℕ) (x : ℕ) → In xs x → length (filter (λ y. not (y == x)) xs) < length xs
one_less [] x h = absurd h
one_less (y ∷ ys) x (inl e) =
    let rest = filter_shorter (λ z. not (z == x)) ys in
    let out = ap (length {A = ℕ}) (filter_no (λ z. not (z == x)) y ys (ap not (eq-eqb y x e))) in
    omega arith
one_less (y ∷ ys) x (inr h) =
    let rest = one_less ys x h in
    elim (either_test (not (y == x))) [
      | inl k ↦ let e = ap (length {A = ℕ}) (filter_yes (λ z. not (z == x)) y ys k) in omega arith
      | inr k ↦ let e = ap (length {A = ℕ}) (filter_no (λ z. not (z == x)) y ys k) in omega arith
    ]

-- distinct numbers that all stand in another list are no more than that has
pub no_longer : (xs ys : List ℕ) → IsDistinct xs → ((x : ℕ) → In xs x → In ys x) → length xs ≤ length ys
no_longer [] ys distinct there = omega arith
no_longer (x ∷ xs) ys distinct there =
    let less = one_less ys x (there x (inl refl)) in
    let rest = no_longer xs (filter (λ y. not (y == x)) ys) (λ z b. distinct z (inr b))
    (λ z h. in_filter (λ y. not (y == x)) ys z (there z (inr h)) (other_passes z x (λ e. distinct x (inl (refl, subst (In xs) e h))))) in
    omega arith

-- ---- positions

pub position_at : (xs : List ℕ) (from i x : ℕ) → IsDistinct xs → slice_get xs i ≡ Some x → position_from (λ other. other == x) from xs ≡ Some (from + i)
position_at [] from i x distinct e = absurd (none-some x e)
position_at (y ∷ ys) from zero x distinct e =
    ap (λ b. cond b (Some from) (position_from (λ other. other == x) (from + 1) ys)) (eq-eqb y x (same_Some y x e)) ∙ ap Some (omega arith)
position_at (y ∷ ys) from (suc i) x distinct e =
    elim (either_test (y == x)) [
      | inl k ↦ absurd (distinct x (inl (eqb-true y x k, at_in ys i x e)))
      | inr k ↦ ap (λ b. cond b (Some from) (position_from (λ other. other == x) (from + 1) ys)) k
          ∙ position_at ys (from + 1) i x (λ z b. distinct z (inr b)) e ∙ ap Some (omega arith)
    ]

pub position_nowhere : (xs : List ℕ) (from x : ℕ) → (In xs x → ⊥) → position_from (λ other. other == x) from xs ≡ None
position_nowhere [] from x out = refl
position_nowhere (y ∷ ys) from x out =
    elim (either_test (y == x)) [
      | inl k ↦ absurd (out (inl (eqb-true y x k)))
      | inr k ↦ ap (λ b. cond b (Some from) (position_from (λ other. other == x) (from + 1) ys)) k ∙ position_nowhere ys (from + 1) x (λ h. out (inr h))
    ]

-- ---- rising numbers

pub in_range : (from count x : ℕ) → from ≤ x → x < from + count → In (range_with_len from count) x
in_range from zero x low high = absurd (omega arith)
in_range from (suc count) x low high = elim (cases_order from x) [
  | inl e ↦ inl e
  | inr o ↦ elim o [
    | inl lt ↦ inr (in_range (from + 1) count x (omega arith) (omega arith))
    | inr lt ↦ absurd (omega arith)
  ]
]

pub range_in : (from count x : ℕ) → In (range_with_len from count) x → (from ≤ x) × (x < from + count)
range_in from zero x h = absurd h
range_in from (suc count) x (inl e) = (omega arith, omega arith)
range_in from (suc count) x (inr h) = let within = range_in (from + 1) count x h in (omega arith, omega arith)

pub range_before : (from count x y : ℕ) → Before (range_with_len from count) x y → x < y
range_before from zero x y h = absurd h
range_before from (suc count) x y (inl h) = let within = range_in (from + 1) count y h.1 in let e = h.0 in omega arith
range_before from (suc count) x y (inr h) = range_before (from + 1) count x y h

-- ---- each where it first stands

pub in_first : (xs : List ℕ) (x : ℕ) → In xs x → In (first_of_each xs) x
in_first [] x h = absurd h
in_first (y ∷ ys) x (inl e) = inl e
in_first (y ∷ ys) x (inr h) = elim (same_or_other x y) [
  | inl e ↦ inl (sym e)
  | inr d ↦ inr (in_filter (λ z. not (z == y)) (first_of_each ys) x (in_first ys x h) (other_passes x y d))
]

pub first_in : (xs : List ℕ) (x : ℕ) → In (first_of_each xs) x → In xs x
first_in [] x h = absurd h
first_in (y ∷ ys) x (inl e) = inl e
first_in (y ∷ ys) x (inr h) = inr (first_in ys x (filter_in (λ z. not (z == y)) (first_of_each ys) x h).0)

pub first_distinct : (xs : List ℕ) → IsDistinct (first_of_each xs)
first_distinct [] x h = absurd h
first_distinct (y ∷ ys) x (inl h) = none_passes_itself x y (sym h.0) (filter_in (λ z. not (z == y)) (first_of_each ys) x h.1).1
first_distinct (y ∷ ys) x (inr h) = first_distinct ys x (filter_before (λ z. not (z == y)) (first_of_each ys) x x h)

-- what comes before a number that is new at its place stood before that place
pub first_before : (xs ys : List ℕ) (x y : ℕ) → (In xs y → ⊥) → Before (first_of_each (xs ++ y ∷ ys)) x y → In xs x
first_before [] ys x y new (inl h) = absurd (none_passes_itself y y refl (filter_in (λ z. not (z == y)) (first_of_each ys) y h.1).1)
first_before [] ys x y new (inr h) = absurd (none_passes_itself y y refl (filter_in (λ z. not (z == y)) (first_of_each ys) y (before_in _ x y h).1).1)
first_before (z ∷ xs) ys x y new (inl h) = inl h.0
first_before (z ∷ xs) ys x y new (inr h) =
    inr (first_before xs ys x y (λ k. new (inr k)) (filter_before (λ w. not (w == z)) (first_of_each (xs ++ y ∷ ys)) x y h))
