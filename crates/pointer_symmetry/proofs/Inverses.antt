-- Renamings one after another, and back.
use Rattle.std.proofs.Common.{◌≡◌, ◌≢◌, ℕ, suc, ◌+◌, ◌<◌, List, [], ◌∷◌, length, set, get_or, Some, sym, ◌∙◌, ap, subst, inl, inr, arith}
use Rattle.std.specs.Prelude.{slice_get, option_map}
use Rattle.std.specs.List.{range_with_len}
use Rattle.std.proofs.lemmas.Bool.{cases_lt}
use Rattle.std.proofs.lemmas.List.{length-map, length-set, get_or-set_same, get_or-set_other, ext_get_or, get_or_default}
use Rattle.std.proofs.lemmas.List.FromFn.{get_or-range_with_len}
use Rattle.std.proofs.lemmas.Option.{slice_get_within, slice_get-get_or, slice_get-map, get_or_from_slice_get}
use Rattle.program_model.specs.declared.machine.TheConstants.{MAX_POINTERS}
use Rattle.program_model.specs.Renaming.{image, IsRenaming, composed}
use Rattle.pointer_symmetry.proofs.Orders.{In, in_at, in_or_out, Before, IsDistinct, no_longer, in_range}

-- ---- the numbers of a renaming

pub number_within : (by : List ℕ) (x : ℕ) → IsRenaming by → x < MAX_POINTERS → image by x < MAX_POINTERS
number_within by x is lt = let long = is.count in is.within x x (omega arith)

image_at : (by : List ℕ) (x d : ℕ) → length by ≡ MAX_POINTERS → x < MAX_POINTERS → get_or by x d ≡ image by x
image_at by x d long lt = get_or_default by x d x (omega arith)

-- where two numbers stand
before_places : (xs : List ℕ) (x y : ℕ) → Before xs x y → (i : ℕ) × (j : ℕ) × (i < j) × (slice_get xs i ≡ Some x) × (slice_get xs j ≡ Some y)
before_places [] x y h = absurd h
before_places (z ∷ zs) x y (inl h) = let found = in_at zs y h.1 in (0, suc found.0, omega arith, ap Some h.0, found.1)
before_places (z ∷ zs) x y (inr h) = let found = before_places zs x y h in (suc found.0, suc found.1, let lt = found.2 in omega arith, found.3, found.4)

renaming_distinct : (by : List ℕ) → IsRenaming by → IsDistinct by
renaming_distinct by is x h =
    let found = before_places by x x h in
    let i = found.0 in
    let j = found.1 in
    let lt = found.2 in
    let long = is.count in
    let first = slice_get_within by i x found.3 in
    let second = slice_get_within by j x found.4 in
    let same = is.different i j (omega arith) (omega arith) (get_or_from_slice_get by i x i found.3 ∙ sym (get_or_from_slice_get by j x j found.4)) in
    omega arith

-- every pointer is the new number of one
pub comes_from : (by : List ℕ) (x : ℕ) → IsRenaming by → x < MAX_POINTERS → (y : ℕ) × (y < MAX_POINTERS) × (image by y ≡ x)
comes_from by x is lt = elim (in_or_out by x) [
  | inl h ↦
      let found = in_at by x h in
      let long = is.count in
      let inside = slice_get_within by found.0 x found.1 in
      (found.0, omega arith, get_or_from_slice_get by found.0 x found.0 found.1)
  | inr out ↦
      let more = no_longer (x ∷ by) (range_with_len 0 MAX_POINTERS)
      (λ z h. elim h [ inl b ↦ out (subst (In by) (sym b.0) b.1) | inr b ↦ renaming_distinct by is z b ])
      (λ z h. in_range 0 MAX_POINTERS z (omega arith) (elim h [
        | inl e ↦ omega arith
        | inr there ↦
            let found = in_at by z there in
            let inside = slice_get_within by found.0 z found.1 in
            let same = get_or_from_slice_get by found.0 z 0 found.1 in
            let small = is.within found.0 0 inside in
            omega arith
      ])) in
      let long = is.count in
      absurd (omega arith)
]

-- ---- one after another

pub composed_at : (first then : List ℕ) (x d : ℕ) → IsRenaming first → x < MAX_POINTERS → get_or (composed first then) x d ≡ image then (image first x)
composed_at first then x d is lt =
    let long = is.count in
    let here = slice_get-get_or first x x (omega arith) in
    get_or_from_slice_get (composed first then) x (image then (image first x)) d (slice_get-map (image then) first x ∙ ap (option_map (image then)) here)

pub composed_is_renaming : (first then : List ℕ) → IsRenaming first → IsRenaming then → IsRenaming (composed first then)
composed_is_renaming first then is then_is = record {
  count = length-map first (image then) ∙ is.count;
  within = λ x d inside.
      let long = is.count in
      let long_too = length-map first (image then) in
      let lt : x < MAX_POINTERS = omega arith in
      subst (λ n. n < MAX_POINTERS) (sym (composed_at first then x d is lt)) (number_within then (image first x) then_is (number_within first x is lt));
  different = λ x y lt less same.
      is.different x y lt less (then_is.different (image first x) (image first y) (number_within first x is lt) (number_within first y is less)
      (sym (composed_at first then x x is lt) ∙ same ∙ composed_at first then y y is less));
}

-- the first so many numbers of one and then another are listed
pub record HasComposed (first then : List ℕ) (count : ℕ) (images : List ℕ) : Type 0 where
  pub long : length images ≡ MAX_POINTERS
  pub each : (x : ℕ) → x < count → image images x ≡ image then (image first x)
  pub are : 0 < count → IsRenaming first × IsRenaming then

pub composed_on : (first then : List ℕ) (count : ℕ) (images : List ℕ) → count < MAX_POINTERS → HasComposed first then count images → IsRenaming first → IsRenaming then → HasComposed first then (count + 1) (set images count (image then (image first count)))
composed_on first then count images lt so is then_is =
    let long = so.long in
    record {
      long = length-set images count (image then (image first count)) ∙ so.long;
      each = λ x less. elim (cases_lt x count) [
        | inl before ↦
            let other : x ≢ count = omega arith in
            get_or-set_other images count x (image then (image first count)) x other ∙ so.each x before
        | inr le ↦
            let e : x ≡ count = omega arith in
            ap (λ place. image (set images count (image then (image first count))) place) e
            ∙ get_or-set_same images count (image then (image first count)) count (omega arith) ∙ ap (λ place. image then (image first place)) (sym e)
      ];
      are = λ some. (is, then_is);
    }

pub composed_all : (first then images : List ℕ) → HasComposed first then MAX_POINTERS images → images ≡ composed first then
composed_all first then images so =
    let is = (so.are (omega arith)).0 in
    let long = so.long in
    let long_first = is.count in
    let long_too = length-map first (image then) in
    ext_get_or 0 images (composed first then) (omega arith)
    (λ x inside.
    let lt : x < MAX_POINTERS = omega arith in
    image_at images x 0 long lt ∙ so.each x lt ∙ sym (composed_at first then x 0 is lt))

-- ---- back

-- the first so many pointers are listed under their new numbers
pub record HasInverse (by : List ℕ) (count : ℕ) (images : List ℕ) : Type 0 where
  pub long : length images ≡ MAX_POINTERS
  pub each : (x : ℕ) → x < count → image images (image by x) ≡ x
  pub is : 0 < count → IsRenaming by

pub inverse_on : (by : List ℕ) (count : ℕ) (images : List ℕ) → count < MAX_POINTERS → HasInverse by count images → IsRenaming by → HasInverse by (count + 1) (set images (image by count) count)
inverse_on by count images lt so is =
    let long = so.long in
    let place = image by count in
    let within = number_within by count is lt in
    record {
      long = length-set images place count ∙ so.long;
      each = λ x less. elim (cases_lt x count) [
        | inl before ↦
            let other : image by x ≢ place = λ e. let same = is.different x count (omega arith) lt e in omega arith in
            get_or-set_other images place (image by x) count (image by x) other ∙ so.each x before
        | inr le ↦
            let e : x ≡ count = omega arith in
            ap (λ y. image (set images place count) (image by y)) e ∙ get_or-set_same images place count place (omega arith) ∙ sym e
      ];
      is = λ some. is;
    }

module _ (by images : List ℕ) (so : HasInverse by MAX_POINTERS images) where
  there : IsRenaming by
  there = so.is (omega arith)

  -- the other way round
  other_way : (x : ℕ) → x < MAX_POINTERS → (image images x < MAX_POINTERS) × (image by (image images x) ≡ x)
  other_way x lt =
      let from = comes_from by x there lt in
      let same : image images x ≡ from.0 = ap (image images) (sym from.2) ∙ so.each from.0 from.1 in
      (subst (λ n. n < MAX_POINTERS) (sym same) from.1, ap (image by) same ∙ from.2)

  pub inverse_is_renaming : IsRenaming images
  inverse_is_renaming = record {
    count = so.long;
    within = λ x d inside.
        let long = so.long in
        let lt : x < MAX_POINTERS = omega arith in
        subst (λ n. n < MAX_POINTERS) (sym (image_at images x d long lt)) (other_way x lt).0;
    different = λ x y lt less same. sym (other_way x lt).1 ∙ ap (image by) same ∙ (other_way y less).1;
  }

  listed : (first then : List ℕ) → IsRenaming first → ((x : ℕ) → x < MAX_POINTERS → image then (image first x) ≡ x) → composed first then ≡ range_with_len 0 MAX_POINTERS
  listed first then is each =
      let long = is.count in
      let long_too = length-map first (image then) in
      ext_get_or 0 (composed first then) (range_with_len 0 MAX_POINTERS) (omega arith)
      (λ x inside.
      let lt : x < MAX_POINTERS = omega arith in
      let same : x ≡ 0 + x = omega arith in
      composed_at first then x 0 is lt ∙ each x lt ∙ same ∙ sym (get_or-range_with_len 0 MAX_POINTERS x 0 lt))

  pub goes_back : composed by images ≡ range_with_len 0 MAX_POINTERS
  goes_back = listed by images there so.each

  pub goes_forth : composed images by ≡ range_with_len 0 MAX_POINTERS
  goes_forth = listed images by inverse_is_renaming (λ x lt. (other_way x lt).1)
