-- Walks over the pointers of an operation: which of them were named before, and that each new one is given the least number that is
-- not given.
use Rattle.std.proofs.Common.{◌≡◌, ◌≢◌, ℕ, zero, suc, ◌+◌, ◌<◌, ◌≤◌, Bool, true, false, not, ◌||◌, ◌⊎◌, List, [], ◌∷◌, ◌++◌, length, map, take, drop, get_or, Some, refl, sym, ◌∙◌, ap, subst, inl, inr, arith, append_assoc}
use Rattle.std.specs.Prelude.{◌==◌, All, slice_get, option_map}
use Rattle.std.specs.List.{list_any, range_with_len}
use Rattle.std.proofs.Math.Bool.{or-false}
use Rattle.std.proofs.lemmas.Bool.{cases_order, eq-eqb, eqb-true, true≢false}
use Rattle.std.proofs.lemmas.Option.{none-some, same_Some, slice_get_within, get_or_from_slice_get, slice_get-map, slice_get-get_or}
use Rattle.std.proofs.lemmas.List.Folds.{list_any_more}
use Rattle.std.proofs.Math.Seq.{take-length}
use Rattle.program_model.specs.declared.machine.TheConstants.{MAX_POINTERS}
use Rattle.program_model.specs.Renaming.{image}
use Rattle.program_model.specs.Semantics.{Semantics}
use Rattle.program_model.specs.Symmetry.{IsSymmetric}
use Rattle.pointer_symmetry.specs.Twins.{canonical_number, canonical_renaming, canonical}
use Rattle.pointer_symmetry.proofs.Orders.{In, at_in, either_test}
use Rattle.pointer_symmetry.proofs.CanonicalForms.{each_in, canonical_is_renaming, image_is_number, same_renaming, used_keeps, new_stays_new, one_to_one, given_before}

-- whether a number is among those of a list
abbrev pub is_among : List ℕ → ℕ → Bool
is_among numbers number = list_any (λ other. other == number) numbers

pub or_cases : (a b : Bool) → (a || b) ≡ true → (a ≡ true) ⊎ (b ≡ true)
or_cases true b h = inl refl
or_cases false b h = inr h

pub or_none : (a b : Bool) → (a || b) ≡ false → (a ≡ false) × (b ≡ false)
or_none true b h = absurd (true≢false h)
or_none false b h = (refl, h)

pub or_left : (a b : Bool) → a ≡ true → (a || b) ≡ true
or_left true b h = refl
or_left false b h = absurd (true≢false (sym h))

pub or_right : (a b : Bool) → b ≡ true → (a || b) ≡ true
or_right true b h = refl
or_right false b h = h

or_assoc : (a b c : Bool) → ((a || b) || c) ≡ (a || (b || c))
or_assoc true b c = refl
or_assoc false b c = refl

pub among_in : (xs : List ℕ) (x : ℕ) → is_among xs x ≡ true → In xs x
among_in [] x h = absurd (true≢false (sym h))
among_in (y ∷ ys) x h = elim (or_cases (y == x) (is_among ys x) h) [ inl e ↦ inl (eqb-true y x e) | inr k ↦ inr (among_in ys x k) ]

pub in_among : (xs : List ℕ) (x : ℕ) → In xs x → is_among xs x ≡ true
in_among [] x h = absurd h
in_among (y ∷ ys) x (inl e) = or_left (y == x) (is_among ys x) (eq-eqb y x e)
in_among (y ∷ ys) x (inr h) = or_right (y == x) (is_among ys x) (in_among ys x h)

-- the list around a place
pub around : (xs : List ℕ) (i x : ℕ) → slice_get xs i ≡ Some x → xs ≡ take i xs ++ x ∷ drop (suc i) xs
around [] i x e = absurd (none-some x e)
around (y ∷ ys) zero x e = ap (λ z. z ∷ ys) (same_Some y x e)
around (y ∷ ys) (suc i) x e = ap (λ zs. y ∷ zs) (around ys i x e)

eq_symm : (x y : ℕ) → (x == y) ≡ (y == x)
eq_symm x y = elim (either_test (x == y)) [
  | inl h ↦ h ∙ sym (eq-eqb y x (sym (eqb-true x y h)))
  | inr h ↦ elim (either_test (y == x)) [
    | inl k ↦ absurd (true≢false (sym (eq-eqb x y (sym (eqb-true y x k))) ∙ h))
    | inr k ↦ h ∙ sym k
  ]
]

-- one more pointer of a list that is walked
pub among_more : (named : List ℕ) (i x other : ℕ) → slice_get named i ≡ Some x → is_among (take (i + 1) named) other ≡ (is_among (take i named) other || other == x)
among_more named i x other here =
    list_any_more (λ y. y == other) named i 0 (slice_get_within named i x here)
    ∙ ap (λ y. is_among (take i named) other || y == other) (get_or_from_slice_get named i x 0 here)
    ∙ ap (λ b. is_among (take i named) other || b) (eq_symm x other)

-- a set holds another one, and the first so many pointers of a list
abbrev pub Holds : (ℕ → Bool) → (ℕ → Bool) → List ℕ → ℕ → Type 0
Holds taken used named count = (pointer : ℕ) → taken pointer ≡ (used pointer || is_among (take count named) pointer)

pub holds_more : (taken more used : ℕ → Bool) (named : List ℕ) (i x : ℕ) → slice_get named i ≡ Some x → Holds taken used named i → ((other : ℕ) → more other ≡ (taken other || other == x)) → Holds more used named (i + 1)
holds_more taken more used named i x here holds grows other =
    grows other ∙ ap (λ b. b || other == x) (holds other) ∙ or_assoc (used other) (is_among (take i named) other) (other == x)
    ∙ ap (λ b. used other || b) (sym (among_more named i x other here))

-- nothing is new where the pointer is there
pub holds_still : (taken used : ℕ → Bool) (named : List ℕ) (i x : ℕ) → slice_get named i ≡ Some x → Holds taken used named i → taken x ≡ true → Holds taken used named (i + 1)
holds_still taken used named i x here holds there =
    holds_more taken taken used named i x here holds
    (λ other. elim (either_test (other == x)) [
      | inl h ↦ (ap taken (eqb-true other x h) ∙ there) ∙ sym (or_right (taken other) (other == x) h)
      | inr h ↦ sym (ap (λ b. taken other || b) h ∙ or-false (taken other))
    ])

-- the first so many pointers of a list keep their numbers
abbrev pub Keeps : (ℕ → Bool) → ℕ → List ℕ → ℕ → Type 0
Keeps used pointers named count = (pointer : ℕ) → In (take count named) pointer → canonical_number used pointers named pointer ≡ pointer

module _ (used : ℕ → Bool) (pointers : ℕ) (named : List ℕ) (within : All (λ pointer. pointer < pointers) named) where
  abbrev number : ℕ → ℕ
  number = canonical_number used pointers named

  pub keeps_more : (i x : ℕ) → slice_get named i ≡ Some x → Keeps used pointers named i → number x ≡ x → Keeps used pointers named (i + 1)
  keeps_more i x here keeps same pointer there =
      elim (or_cases (is_among (take i named) pointer) (pointer == x) (sym (among_more named i x pointer here) ∙ in_among (take (i + 1) named) pointer there)) [
        | inl k ↦ keeps pointer (among_in (take i named) pointer k)
        | inr k ↦ let e = eqb-true pointer x k in ap number e ∙ same ∙ sym e
      ]

  -- one that was taken before keeps its number
  pub taken_keeps : (taken : ℕ → Bool) (i x : ℕ) → Holds taken used named i → Keeps used pointers named i → taken x ≡ true → number x ≡ x
  taken_keeps taken i x holds keeps there = elim (or_cases (used x) (is_among (take i named) x) (sym (holds x) ∙ there)) [
    | inl h ↦ used_keeps used pointers named within x h
    | inr h ↦ keeps x (among_in (take i named) x h)
  ]

  -- another one gets the least number that is not taken
  pub least_is_number : (taken : ℕ → Bool) (i x least : ℕ) → slice_get named i ≡ Some x → Holds taken used named i → Keeps used pointers named i → taken x ≡ false → taken least ≡ false → ((other : ℕ) → other < least → taken other ≡ true) → number x ≡ least
  least_is_number taken i x least here holds keeps new out below =
      let free = or_none (used x) (is_among (take i named) x) (sym (holds x) ∙ new) in
      let lt : x < pointers = each_in (λ pointer. pointer < pointers) named x within (at_in named i x here) in
      let fresh : In (take i named) x → ⊥ = λ h. true≢false (sym (in_among (take i named) x h) ∙ free.1) in
      let stays = new_stays_new used pointers named within x free.0 lt in
      let split : named ++ range_with_len 0 pointers ≡ take i named ++ x ∷ (drop (suc i) named ++ range_with_len 0 pointers) =
      ap (λ xs. xs ++ range_with_len 0 pointers) (around named i x here) ∙ append_assoc (take i named) (x ∷ drop (suc i) named) (range_with_len 0 pointers) in
      elim (cases_order (number x) least) [
        | inl e ↦ e
        | inr o ↦ elim o [
          | inl less ↦ absurd (elim (or_cases (used (number x)) (is_among (take i named) (number x)) (sym (holds (number x)) ∙ below (number x) less)) [
            | inl h ↦ true≢false (sym h ∙ stays.0)
            | inr h ↦
                let there = among_in (take i named) (number x) h in
                fresh (subst (In (take i named)) (one_to_one used pointers named within (number x) x (keeps (number x) there)) there)
          ])
          | inr less ↦
              let outside = or_none (used least) (is_among (take i named) least) (sym (holds least) ∙ out) in
              let given = given_before used pointers named within (take i named) (drop (suc i) named ++ range_with_len 0 pointers) x least split fresh free.0 lt less outside.0 in
              let same : given.0 ≡ least = sym (keeps given.0 given.1) ∙ given.2 in
              absurd (true≢false (sym (in_among (take i named) least (subst (In (take i named)) same given.1)) ∙ outside.1))
        ]
      ]

module _ {C : Type 0} (m : Semantics C) (belongs : ℕ → C → Type 0) (alike : IsSymmetric m belongs) (few : m.pointers ≤ MAX_POINTERS) (used : ℕ → Bool) (op : ℕ) (there : op < m.ops) where
  abbrev named : List ℕ
  named = m.pointers_of op

  within : All (λ pointer. pointer < m.pointers) named
  within = alike.pointers op there

  abbrev by : List ℕ
  by = canonical_renaming used m.pointers named

  -- an operation whose pointers all keep their numbers is its canonical form
  pub own_form : Keeps used m.pointers named (length named) → canonical m used op ≡ op
  own_form keeps =
      alike.keeps by op (canonical_is_renaming used m.pointers named within few) there
      (λ k d inside.
      let x = get_or named k d in
      let among = subst (λ xs. In xs x) (sym (take-length named)) (at_in named k x (slice_get-get_or named k d inside)) in
      image_is_number used m.pointers named within x few ∙ keeps x among)

  -- one with a pointer that gets another number is not
  pub another_form : (i x : ℕ) → slice_get named i ≡ Some x → canonical_number used m.pointers named x ≢ x → canonical m used op ≢ op
  another_form i x here moves same =
      let renamed = alike.renames by op (canonical_is_renaming used m.pointers named within few) there in
      let equal : named ≡ map (image by) named = sym (ap m.pointers_of same) ∙ renamed in
      let moved : Some x ≡ Some (image by x) = sym here ∙ ap (λ xs. slice_get xs i) equal ∙ slice_get-map (image by) named i ∙ ap (option_map (image by)) here in
      moves (sym (image_is_number used m.pointers named within x few) ∙ sym (same_Some x (image by x) moved))

  -- two sets that say the same of the machine's pointers give one canonical form
  same_form : (told : ℕ → Bool) → ((pointer : ℕ) → pointer < MAX_POINTERS → used pointer ≡ told pointer) → canonical m used op ≡ canonical m told op
  same_form told same = ap (λ renaming. m.rename renaming op) (same_renaming used told m.pointers named within (λ x lt. same x (omega arith)))

  pub told_own : (told : ℕ → Bool) → ((pointer : ℕ) → pointer < MAX_POINTERS → used pointer ≡ told pointer) → Keeps used m.pointers named (length named) → false ≡ not (canonical m told op == op)
  told_own told same keeps = sym (ap not (eq-eqb (canonical m told op) op (sym (same_form told same) ∙ own_form keeps)))

  pub told_another : (told : ℕ → Bool) → ((pointer : ℕ) → pointer < MAX_POINTERS → used pointer ≡ told pointer) → (i x : ℕ) → slice_get named i ≡ Some x → canonical_number used m.pointers named x ≢ x → true ≡ not (canonical m told op == op)
  told_another told same i x here moves = elim (either_test (canonical m told op == op)) [
    | inl h ↦ absurd (another_form i x here moves (same_form told same ∙ eqb-true (canonical m told op) op h))
    | inr h ↦ sym (ap not h)
  ]
