-- Numberings on their way: the pointers that were walked have their canonical numbers.
use Rattle.std.proofs.Common.{◌≡◌, ◌≢◌, ℕ, suc, ◌+◌, ◌<◌, ◌≤◌, Bool, true, false, ◌||◌, List, ◌++◌, length, length-append, map, take, drop, set, cond, Some, refl, sym, ◌∙◌, ap, subst, inl, inr, arith}
use Rattle.std.specs.Prelude.{◌==◌, All, slice_get, option_map}
use Rattle.std.specs.List.{range_with_len}
use Rattle.std.proofs.Math.Seq.{take-length}
use Rattle.std.proofs.Math.Bool.{or-false}
use Rattle.std.proofs.lemmas.Bool.{cases_order, eq-eqb, eqb-true, true≢false}
use Rattle.std.proofs.lemmas.List.{take-map, get_or-set_same, get_or-set_other, ext_get_or, get_or_default, length-set}
use Rattle.std.proofs.lemmas.List.FromFn.{length-range_with_len, get_or-range_with_len, get_or-map-range_with_len, length-map-range_with_len}
use Rattle.std.proofs.lemmas.Option.{slice_get-map, slice_get_within}
use Rattle.program_model.specs.declared.machine.TheConstants.{MAX_POINTERS}
use Rattle.program_model.specs.Renaming.{image}
use Rattle.program_model.proofs.Places.{get-append_left, get-append_right, get-range}
use Rattle.pointer_symmetry.specs.declared.numbering.Numbering.{Numbering}
use Rattle.pointer_symmetry.specs.Used.{has}
use Rattle.pointer_symmetry.specs.Twins.{canonical_number, canonical_renaming}
use Rattle.pointer_symmetry.specs.Inner.Numbering.{IsGiven, IsNumbered}
use Rattle.pointer_symmetry.proofs.Orders.{In, at_in, in_map, map_in, in_right, in_either, in_range, range_in, either_test, same_or_other}
use Rattle.pointer_symmetry.proofs.CanonicalForms.{each_in, used_keeps, past_keeps, new_stays_new, stays_within, one_to_one, given_before, kind}
use Rattle.pointer_symmetry.proofs.Walks.{is_among, among_in, in_among, around, Holds, holds_more, holds_still, or_none, or_left, or_right, or_cases}

-- the pointers of an operation, and then all
abbrev pub walk : ℕ → List ℕ → List ℕ
walk pointers named = named ++ range_with_len 0 pointers

-- the first so many pointers of the walk have their canonical numbers, and so have the used ones; the others have their own
pub record HasNumbered (used : ℕ → Bool) (pointers : ℕ) (named : List ℕ) (count : ℕ) (numbering : Numbering) : Type 0 where
  pub long : length numbering.images ≡ MAX_POINTERS
  pub numbered : Holds (has numbering.numbered) used (walk pointers named) count
  pub given : Holds (has numbering.given) used (map (canonical_number used pointers named) (walk pointers named)) count
  pub images : (x : ℕ) → x < MAX_POINTERS → image numbering.images x ≡ cond (has numbering.numbered x) (canonical_number used pointers named x) x

no_eqb : (x y : ℕ) → x ≢ y → (x == y) ≡ false
no_eqb x y d = elim (either_test (x == y)) [ inl h ↦ absurd (d (eqb-true x y h)) | inr h ↦ h ]

cond_same : (b : Bool) (x y : ℕ) → x ≡ y → cond b x y ≡ x
cond_same true x y e = refl
cond_same false x y e = sym e

module _ (used : ℕ → Bool) (pointers : ℕ) (named : List ℕ) (within : All (λ pointer. pointer < pointers) named) (few : pointers ≤ MAX_POINTERS) where
  abbrev all : List ℕ
  all = walk pointers named

  abbrev number : ℕ → ℕ
  number = canonical_number used pointers named

  walk_within : (x : ℕ) → In all x → x < pointers
  walk_within x there = elim (in_either named (range_with_len 0 pointers) x there) [
    | inl h ↦ each_in (λ pointer. pointer < pointers) named x within h
    | inr h ↦ let below = range_in 0 pointers x h in omega arith
  ]

  among_numbers : (count y : ℕ) → In (take count all) y → is_among (take count (map number all)) (number y) ≡ true
  among_numbers count y there = in_among (take count (map number all)) (number y) (subst (λ ys. In ys (number y)) (sym (take-map number count all)) (in_map number (take count all) y there))

  -- a pointer that has no number is new, and its number is not given
  is_new : (count x : ℕ) (numbering : Numbering) → slice_get all count ≡ Some x → HasNumbered used pointers named count numbering → has numbering.numbered x ≡ false → (used x ≡ false) × (In (take count all) x → ⊥) × (has numbering.given (number x) ≡ false)
  is_new count x numbering here so out =
      let free = or_none (used x) (is_among (take count all) x) (sym (so.numbered x) ∙ out) in
      let lt = walk_within x (at_in all count x here) in
      let fresh : In (take count all) x → ⊥ = λ h. true≢false (sym (in_among (take count all) x h) ∙ free.1) in
      let stays = new_stays_new used pointers named within x free.0 lt in (
        free.0,
        fresh,
        elim (either_test (has numbering.given (number x))) [
          | inr h ↦ h
          | inl h ↦ absurd (elim (or_cases (used (number x)) (is_among (take count (map number all)) (number x)) (sym (so.given (number x)) ∙ h)) [
            | inl k ↦ true≢false (sym k ∙ stays.0)
            | inr k ↦
                let found = map_in number (take count all) (number x) (subst (λ ys. In ys (number x)) (take-map number count all) (among_in (take count (map number all)) (number x) k)) in
                fresh (subst (In (take count all)) (one_to_one used pointers named within found.0 x found.2) found.1)
          ])
        ],
      )

  pub has_room : (count x : ℕ) (numbering : Numbering) → slice_get all count ≡ Some x → HasNumbered used pointers named count numbering → has numbering.numbered x ≡ false → (number : ℕ) × (number < MAX_POINTERS) × (has numbering.given number ≡ false)
  has_room count x numbering here so out =
      let lt = walk_within x (at_in all count x here) in
      (number x, stays_within used pointers named within x MAX_POINTERS few (omega arith), (is_new count x numbering here so out).2)

  -- it is given the least number that is not given
  gets_number : (count x least : ℕ) (old new : Numbering) → slice_get all count ≡ Some x → HasNumbered used pointers named count old → has old.numbered x ≡ false → IsGiven old x least new → number x ≡ least
  gets_number count x least old new here so out given =
      let is = is_new count x old here so out in
      let lt = walk_within x (at_in all count x here) in
      elim (cases_order (number x) least) [
        | inl e ↦ e
        | inr o ↦ elim o [
          | inl less ↦ absurd (true≢false (sym (given.lesser (number x) less) ∙ is.2))
          | inr less ↦
              let free = or_none (used least) (is_among (take count (map number all)) least) (sym (so.given least) ∙ given.free) in
              let before = given_before used pointers named within (take count all) (drop (suc count) all) x least (around all count x here) is.1 is.0 lt less free.0 in
              absurd (true≢false (sym (subst (λ n. is_among (take count (map number all)) n ≡ true) before.2 (among_numbers count before.0 before.1)) ∙ free.1))
        ]
      ]

  pub numbers_on : (count x : ℕ) (old new : Numbering) → slice_get all count ≡ Some x → HasNumbered used pointers named count old → IsNumbered old x new → HasNumbered used pointers named (count + 1) new
  numbers_on count x old new here so done =
      let there : slice_get (map number all) count ≡ Some (number x) = slice_get-map number all count ∙ ap (option_map number) here in
      let lt = walk_within x (at_in all count x here) in
      elim (either_test (has old.numbered x)) [
        | inl h ↦
            let among : has old.given (number x) ≡ true = so.given (number x) ∙ elim (or_cases (used x) (is_among (take count all) x) (sym (so.numbered x) ∙ h)) [
              | inl k ↦ or_left (used (number x)) (is_among (take count (map number all)) (number x)) (ap used (used_keeps used pointers named within x k) ∙ k)
              | inr k ↦ or_right (used (number x)) (is_among (take count (map number all)) (number x)) (among_numbers count x (among_in (take count all) x k))
            ] in
            subst (HasNumbered used pointers named (count + 1)) (sym (done.still h)) (record {
              long = so.long;
              numbered = holds_still (has old.numbered) used all count x here so.numbered h;
              given = holds_still (has old.given) used (map number all) count (number x) there so.given among;
              images = so.images;
            })
        | inr h ↦
            let least = (done.given h).0 in
            let given = (done.given h).1 in
            let same : number x ≡ least = gets_number count x least old new here so h given in
            let long = so.long in
            record {
              long = ap (length {A = ℕ}) given.images ∙ length-set old.images x least ∙ so.long;
              numbered = holds_more (has old.numbered) (has new.numbered) used all count x here so.numbered given.numbered;
              given = holds_more (has old.given) (has new.given) used (map number all) count (number x) there so.given (λ other. given.given other ∙ ap (λ n. has old.given other || other == n) (sym same));
              images = λ z inside. elim (same_or_other z x) [
                | inl e ↦
                    ap (λ images. image images z) given.images ∙ ap (λ place. image (set old.images x least) place) e
                    ∙ get_or-set_same old.images x least x (omega arith) ∙ sym same ∙ ap number (sym e)
                    ∙ sym (ap (λ b. cond b (number z) z) (given.numbered z ∙ or_right (has old.numbered z) (z == x) (eq-eqb z x e)))
                | inr d ↦
                    ap (λ images. image images z) given.images ∙ get_or-set_other old.images x z least z d ∙ so.images z inside
                    ∙ ap (λ b. cond b (number z) z) (sym (given.numbered z ∙ ap (λ b. has old.numbered z || b) (no_eqb z x d) ∙ or-false (has old.numbered z)))
              ];
            }
      ]

  -- where each pointer of the walk stands
  pub at_place : (place x : ℕ) → slice_get named place ≡ Some x → slice_get all place ≡ Some x
  at_place place x here = get-append_left named (range_with_len 0 pointers) place (slice_get_within named place x here) ∙ here

  pub at_pointer : (pointer : ℕ) → pointer < pointers → slice_get all (length named + pointer) ≡ Some pointer
  at_pointer pointer lt = get-append_right named (range_with_len 0 pointers) pointer (length named + pointer) refl ∙ get-range 0 pointers pointer lt ∙ ap Some (omega arith)

  -- at the end the numbers are those of the canonical renaming
  pub numbered_all : (numbering : Numbering) → HasNumbered used pointers named (length named + pointers) numbering → numbering.images ≡ canonical_renaming used pointers named
  numbered_all numbering so =
      let long = so.long in
      ext_get_or 0 numbering.images (canonical_renaming used pointers named) (so.long ∙ sym (length-map-range_with_len number 0 MAX_POINTERS))
      (λ z inside.
      let lt : z < MAX_POINTERS = omega arith in
      let count : length named + pointers ≡ length all = omega (arith, length-append named (range_with_len 0 pointers), length-range_with_len 0 pointers) in
      let whole : take (length named + pointers) all ≡ all = ap (λ n. take n all) count ∙ take-length all in
      let own : image numbering.images z ≡ number z = so.images z lt ∙ elim (kind used pointers z) [
        | inl h ↦ ap (λ b. cond b (number z) z) (so.numbered z ∙ or_left (used z) (is_among (take (length named + pointers) all) z) h)
        | inr o ↦ elim o [
          | inl past ↦ cond_same (has numbering.numbered z) (number z) z (past_keeps used pointers named within z past)
          | inr new ↦ ap (λ b. cond b (number z) z) (so.numbered z ∙ or_right (used z) (is_among (take (length named + pointers) all) z)
              (in_among (take (length named + pointers) all) z (subst (λ ys. In ys z) (sym whole) (in_right named (range_with_len 0 pointers) z (in_range 0 pointers z (omega arith) (omega arith))))))
        ]
      ] in
      get_or_default numbering.images z 0 z inside ∙ own ∙ sym (get_or-map-range_with_len number 0 MAX_POINTERS z z 0 lt (omega arith)))

-- at the start the used pointers have their numbers
pub numbered_none : (first pointers : ℕ) (named : List ℕ) → All (λ pointer. pointer < pointers) named → HasNumbered (has first) pointers named 0 (record { images = range_with_len 0 MAX_POINTERS; numbered = first; given = first })
numbered_none first pointers named within = record {
  long = refl;
  numbered = λ x. sym (or-false (has first x));
  given = λ x. sym (or-false (has first x));
  images = λ x lt. let same : 0 + x ≡ x = omega arith in get_or-range_with_len 0 MAX_POINTERS x x lt ∙ same ∙ elim (either_test (has first x)) [
    | inl h ↦ sym (used_keeps (has first) pointers named within x h) ∙ ap (λ b. cond b (canonical_number (has first) pointers named x) x) (sym h)
    | inr h ↦ ap (λ b. cond b (canonical_number (has first) pointers named x) x) (sym h)
  ];
}
