-- Canonical renamings: they are renamings, they keep the used pointers, and each new number is the least that is not given before.
use Rattle.std.proofs.Common.{◌≡◌, ℕ, ◌<◌, ◌≤◌, Bool, true, false, not, ◌⊎◌, List, [], ◌∷◌, ◌++◌, length, map, get_or, Some, refl, sym, ◌∙◌, ap, subst, inl, inr, arith}
use Rattle.std.specs.Prelude.{◌==◌, All, slice_get, slice_index, unwrap_or, option_map}
use Rattle.std.specs.List.{position_from, range_with_len}
use Rattle.std.proofs.lemmas.Bool.{cases_order, cases_lt, not-true, true≢false}
use Rattle.std.proofs.lemmas.Option.{same_Some, slice_get_within, slice_get-get_or, get_or_from_slice_get}
use Rattle.std.proofs.lemmas.List.{get_or_past}
use Rattle.std.proofs.lemmas.List.FromFn.{get_or-map-range_with_len, length-map-range_with_len}
use Rattle.program_model.specs.declared.machine.TheConstants.{MAX_POINTERS}
use Rattle.program_model.specs.Renaming.{image, IsRenamingOf}
use Rattle.pointer_symmetry.specs.Twins.{first_of_each, unused_of, unused, in_new_order, canonical_number, canonical_renaming}
use Rattle.pointer_symmetry.proofs.Orders.{In, in_at, at_in, in_right, in_either, in_filter, filter_in, filter_yes, filter_no, filter-append, Before, before_at, filter_before, IsDistinct, one_place, no_longer, position_at, position_nowhere, in_range, range_in, range_before, in_first, first_in, first_distinct, first_before}

-- each number in a list is such
pub each_in : (Such : ℕ → Type 0) (xs : List ℕ) (x : ℕ) → All Such xs → In xs x → Such x
each_in Such xs x all there =
    let found = in_at xs x there in
    subst Such (get_or_from_slice_get xs found.0 x 0 found.1) (all found.0 0 (slice_get_within xs found.0 x found.1))

is_or_not : (b : Bool) → (b ≡ true) ⊎ (b ≡ false)
is_or_not true = inl refl
is_or_not false = inr refl

-- pointers are used, or past the last, or new
pub kind : (used : ℕ → Bool) (pointers x : ℕ) → (used x ≡ true) ⊎ ((pointers ≤ x) ⊎ ((used x ≡ false) × (x < pointers)))
kind used pointers x = elim (is_or_not (used x)) [
  | inl h ↦ inl h
  | inr h ↦ elim (cases_lt x pointers) [ inl lt ↦ inr (inr (h, lt)) | inr le ↦ inr (inl le) ]
]

same_unused : (used told : ℕ → Bool) (xs : List ℕ) → ((x : ℕ) → In xs x → used x ≡ told x) → unused_of used xs ≡ unused_of told xs
same_unused used told [] same = refl
same_unused used told (x ∷ xs) same = elim (is_or_not (used x)) [
  | inl h ↦
      filter_no (λ number. not (used number)) x xs (ap not h) ∙ same_unused used told xs (λ y there. same y (inr there))
      ∙ sym (filter_no (λ number. not (told number)) x xs (ap not (sym (same x (inl refl)) ∙ h)))
  | inr h ↦
      filter_yes (λ number. not (used number)) x xs (ap not h) ∙ ap (λ ys. x ∷ ys) (same_unused used told xs (λ y there. same y (inr there)))
      ∙ sym (filter_yes (λ number. not (told number)) x xs (ap not (sym (same x (inl refl)) ∙ h)))
]

-- the renaming depends on what is said of the machine's pointers alone
pub same_renaming : (used told : ℕ → Bool) (pointers : ℕ) (named : List ℕ) → All (λ pointer. pointer < pointers) named → ((x : ℕ) → x < pointers → used x ≡ told x) → canonical_renaming used pointers named ≡ canonical_renaming told pointers named
same_renaming used told pointers named within same =
    let below = λ (x : ℕ) (there : In (range_with_len 0 pointers) x). let h = range_in 0 pointers x there in let lt : x < pointers = omega arith in lt in
    let free : unused used pointers ≡ unused told pointers = same_unused used told (range_with_len 0 pointers) (λ x there. same x (below x there)) in
    let order : in_new_order used pointers named ≡ in_new_order told pointers named =
    ap first_of_each (same_unused used told (named ++ range_with_len 0 pointers)
    (λ x there. same x (elim (in_either named (range_with_len 0 pointers) x there) [
      | inl h ↦ each_in (λ pointer. pointer < pointers) named x within h
      | inr h ↦ below x h
    ]))) in
    ap (λ (numbers : List ℕ). map (λ pointer. unwrap_or (option_map (slice_index numbers) (position_from (λ other. other == pointer) 0 (in_new_order used pointers named))) pointer) (range_with_len 0 MAX_POINTERS)) free
    ∙ ap (λ (numbers : List ℕ). map (λ pointer. unwrap_or (option_map (slice_index (unused told pointers)) (position_from (λ other. other == pointer) 0 numbers)) pointer) (range_with_len 0 MAX_POINTERS)) order

module _ (used : ℕ → Bool) (pointers : ℕ) where
  -- the unused pointers
  pub in_unused : (x : ℕ) → used x ≡ false → x < pointers → In (unused used pointers) x
  in_unused x new within = in_filter (λ number. not (used number)) (range_with_len 0 pointers) x (in_range 0 pointers x (omega arith) (omega arith)) (ap not new)

  pub unused_in : (x : ℕ) → In (unused used pointers) x → (used x ≡ false) × (x < pointers)
  unused_in x there =
      let found = filter_in (λ number. not (used number)) (range_with_len 0 pointers) x there in
      let within = range_in 0 pointers x found.0 in
      (not-true (used x) found.1, omega arith)

  pub unused_rise : (x y : ℕ) → Before (unused used pointers) x y → x < y
  unused_rise x y h = range_before 0 pointers x y (filter_before (λ number. not (used number)) (range_with_len 0 pointers) x y h)

  unused_distinct : IsDistinct (unused used pointers)
  unused_distinct x h = let less = unused_rise x x h in omega arith

  module _ (named : List ℕ) (within : All (λ pointer. pointer < pointers) named) where
    abbrev order : List ℕ
    order = in_new_order used pointers named

    abbrev number : ℕ → ℕ
    number = canonical_number used pointers named

    pub in_order : (x : ℕ) → used x ≡ false → x < pointers → In order x
    in_order x new lt =
        in_first (unused_of used (named ++ range_with_len 0 pointers)) x
        (in_filter (λ number. not (used number)) (named ++ range_with_len 0 pointers) x (in_right named (range_with_len 0 pointers) x (in_range 0 pointers x (omega arith) (omega arith))) (ap not new))

    pub order_in : (x : ℕ) → In order x → (used x ≡ false) × (x < pointers)
    order_in x there =
        let found = filter_in (λ number. not (used number)) (named ++ range_with_len 0 pointers) x (first_in (unused_of used (named ++ range_with_len 0 pointers)) x there) in (
          not-true (used x) found.1,
          elim (in_either named (range_with_len 0 pointers) x found.0) [
            | inl h ↦ each_in (λ pointer. pointer < pointers) named x within h
            | inr h ↦ let below = range_in 0 pointers x h in omega arith
          ],
        )

    pub order_distinct : IsDistinct order
    order_distinct = first_distinct (unused_of used (named ++ range_with_len 0 pointers))

    enough : length order ≤ length (unused used pointers)
    enough = no_longer order (unused used pointers) order_distinct (λ x there. let found = order_in x there in in_unused x found.0 found.1)

    -- the new number of the pointer at a place in the order
    pub number_at : (i x y : ℕ) → slice_get order i ≡ Some x → slice_get (unused used pointers) i ≡ Some y → number x ≡ y
    number_at i x y here there =
        ap (λ place. unwrap_or (option_map (slice_index (unused used pointers)) place) x) (position_at order 0 i x order_distinct here ∙ ap Some (omega arith))
        ∙ get_or_from_slice_get (unused used pointers) i y 0 there

    number_nowhere : (x : ℕ) → (In order x → ⊥) → number x ≡ x
    number_nowhere x out = ap (λ place. unwrap_or (option_map (slice_index (unused used pointers)) place) x) (position_nowhere order 0 x out)

    pub used_keeps : (x : ℕ) → used x ≡ true → number x ≡ x
    used_keeps x h = number_nowhere x (λ there. true≢false (sym h ∙ (order_in x there).0))

    pub past_keeps : (x : ℕ) → pointers ≤ x → number x ≡ x
    past_keeps x le = number_nowhere x (λ there. let below = (order_in x there).1 in omega arith)

    -- where a new pointer and its number stand
    place_of : (x : ℕ) → used x ≡ false → x < pointers → (i : ℕ) × (slice_get order i ≡ Some x) × (slice_get (unused used pointers) i ≡ Some (number x))
    place_of x new lt =
        let found = in_at order x (in_order x new lt) in
        let inside = slice_get_within order found.0 x found.1 in
        let fits = enough in
        let there = slice_get-get_or (unused used pointers) found.0 0 (omega arith) in
        (found.0, found.1, there ∙ ap Some (sym (number_at found.0 x _ found.1 there)))

    pub new_stays_new : (x : ℕ) → used x ≡ false → x < pointers → (used (number x) ≡ false) × (number x < pointers)
    new_stays_new x new lt = let place = place_of x new lt in unused_in (number x) (at_in (unused used pointers) place.0 (number x) place.2)

    -- the numbers of two new pointers are different
    new_apart : (x y : ℕ) → used x ≡ false → x < pointers → used y ≡ false → y < pointers → number x ≡ number y → x ≡ y
    new_apart x y new lt other less same =
        let left = place_of x new lt in
        let right = place_of y other less in
        let equal = one_place (unused used pointers) left.0 right.0 (number y) unused_distinct (left.2 ∙ ap Some same) right.2 in
        same_Some x y (sym left.1 ∙ ap (slice_get order) equal ∙ right.1)

    -- a new pointer's number is that of no pointer that keeps its own
    new_from_kept : (x y : ℕ) → used x ≡ false → x < pointers → number y ≡ y → (used y ≡ true) ⊎ (pointers ≤ y) → number x ≡ number y → ⊥
    new_from_kept x y new lt keeps kept same =
        let stays = new_stays_new x new lt in
        let equal : number x ≡ y = same ∙ keeps in
        elim kept [
          | inl h ↦ true≢false (sym h ∙ ap used (sym equal) ∙ stays.0)
          | inr le ↦ let below = stays.1 in omega arith
        ]

    pub keeps_or_new : (x : ℕ) → ((number x ≡ x) × ((used x ≡ true) ⊎ (pointers ≤ x))) ⊎ ((used x ≡ false) × (x < pointers))
    keeps_or_new x = elim (kind used pointers x) [
      | inl h ↦ inl (used_keeps x h, inl h)
      | inr o ↦ elim o [ inl le ↦ inl (past_keeps x le, inr le) | inr new ↦ inr new ]
    ]

    pub one_to_one : (x y : ℕ) → number x ≡ number y → x ≡ y
    one_to_one x y same = elim (keeps_or_new x) [
      | inl keeps ↦ elim (keeps_or_new y) [
        | inl also ↦ sym keeps.0 ∙ same ∙ also.0
        | inr new ↦ absurd (new_from_kept y x new.0 new.1 keeps.0 keeps.1 (sym same))
      ]
      | inr new ↦ elim (keeps_or_new y) [
        | inl keeps ↦ absurd (new_from_kept x y new.0 new.1 keeps.0 keeps.1 same)
        | inr also ↦ new_apart x y new.0 new.1 also.0 also.1 same
      ]
    ]

    pub stays_within : (x count : ℕ) → pointers ≤ count → x < count → number x < count
    stays_within x count le lt = elim (keeps_or_new x) [
      | inl keeps ↦ let same = keeps.0 in omega arith
      | inr new ↦ let below = (new_stays_new x new.0 new.1).1 in omega arith
    ]

    -- every lesser unused number is given to a pointer before
    pub given_before : (before after : List ℕ) (x r : ℕ) → named ++ range_with_len 0 pointers ≡ before ++ x ∷ after → (In before x → ⊥) → used x ≡ false → x < pointers → r < number x → used r ≡ false → (y : ℕ) × In before y × (number y ≡ r)
    given_before before after x r split fresh new lt less free =
        let place = place_of x new lt in
        let below = (new_stays_new x new lt).1 in
        let other = in_at (unused used pointers) r (in_unused r free (omega arith)) in
        let earlier : other.0 < place.0 = elim (cases_order other.0 place.0) [
          | inl e ↦ let same = same_Some r (number x) (sym other.1 ∙ ap (slice_get (unused used pointers)) e ∙ place.2) in omega arith
          | inr o ↦ elim o [
            | inl h ↦ h
            | inr h ↦ let rise = unused_rise (number x) r (before_at (unused used pointers) place.0 other.0 (number x) r place.2 other.1 h) in omega arith
          ]
        ] in
        let inside = slice_get_within order place.0 x place.1 in
        let there = slice_get-get_or order other.0 0 (omega arith) in
        let y = get_or order other.0 0 in
        let parts : order ≡ first_of_each (unused_of used before ++ x ∷ unused_of used after) =
        ap (λ xs. first_of_each (unused_of used xs)) split
        ∙ ap first_of_each (filter-append (λ number. not (used number)) before (x ∷ after)
        ∙ ap (λ xs. unused_of used before ++ xs) (filter_yes (λ number. not (used number)) x after (ap not new))) in
        let first = first_before (unused_of used before) (unused_of used after) y x
        (λ h. fresh (filter_in (λ number. not (used number)) before x h).0)
        (subst (λ xs. Before xs y x) parts (before_at order other.0 place.0 y x there place.1 earlier)) in
        (y, (filter_in (λ number. not (used number)) before y first).0, number_at other.0 y r there other.1)

    -- ---- the renaming

    pub image_is_number : (x : ℕ) → pointers ≤ MAX_POINTERS → image (canonical_renaming used pointers named) x ≡ number x
    image_is_number x few = elim (cases_lt x MAX_POINTERS) [
      | inl lt ↦ get_or-map-range_with_len number 0 MAX_POINTERS x x x lt (omega arith)
      | inr le ↦
          let long = length-map-range_with_len number 0 MAX_POINTERS in
          get_or_past (canonical_renaming used pointers named) x x (omega arith) ∙ sym (past_keeps x (omega arith))
    ]

    pub canonical_is_renaming : pointers ≤ MAX_POINTERS → IsRenamingOf pointers (canonical_renaming used pointers named)
    canonical_is_renaming few = record {
      is_renaming = record {
        count = length-map-range_with_len number 0 MAX_POINTERS;
        within = λ x d inside.
            let long = length-map-range_with_len number 0 MAX_POINTERS in
            let lt : x < MAX_POINTERS = omega arith in
            subst (λ n. n < MAX_POINTERS) (sym (get_or-map-range_with_len number 0 MAX_POINTERS x x d lt (omega arith))) (stays_within x MAX_POINTERS few lt);
        different = λ x y in_range other_in_range same.
            one_to_one x y (sym (image_is_number x few) ∙ same ∙ image_is_number y few);
      };
      among = λ x lt. subst (λ n. n < pointers) (sym (image_is_number x few)) (stays_within x pointers (omega arith) lt);
    }
