-- Lists of numbers that are renamings: each number is a pointer's, and stands at no place before.
use Rattle.std.proofs.Common.{◌≡◌, ℕ, ◌<◌, ◌≤◌, length, take, slice_index, Contains, sym, ◌∙◌, inl, inr, arith}
use Rattle.std.specs.Prelude.{List, slice_index_or}
use Rattle.std.proofs.lemmas.Bool.{cases_order}
use Rattle.std.proofs.lemmas.List.{get_or-take, get_or_default, length-take-le}
use Rattle.program_model.specs.declared.machine.TheConstants.{MAX_POINTERS}
use Rattle.program_model.specs.Renaming.{image, IsRenaming}

-- the number at a place, whatever is read past the end
at_place : (images : List ℕ) (place : ℕ) → place < length images → image images place ≡ slice_index images place
at_place images place within = get_or_default images place place 0 within

-- what stands at a place before another is among what stands before that one
stands_before : (images : List ℕ) (place before number : ℕ) → before < place → place ≤ length images → slice_index_or images before number ≡ number → Contains (take place images) number
stands_before images place before number lt le same =
    let long : length (take place images) ≡ place = length-take-le place images le in
    (before, omega arith, get_or-take place images before number lt ∙ same)

-- and the other way round
stood_before : (images : List ℕ) (place number : ℕ) → place ≤ length images → Contains (take place images) number → (before : ℕ) × (before < place) × (slice_index_or images before number ≡ number)
stood_before images place number le there =
    let long : length (take place images) ≡ place = length-take-le place images le in
    let within = there.1 in
    let lt : there.0 < place = omega arith in
    (there.0, lt, sym (get_or-take place images there.0 number lt) ∙ there.2)

-- each number is new at its place
abbrev pub AreNew : List ℕ → ℕ → Type 0
AreNew images places = (place : ℕ) → place < places → (slice_index images place < MAX_POINTERS) × ¬ Contains (take place images) (slice_index images place)

-- so two equal numbers do not stand at different places
not_twice : (images : List ℕ) (places place other : ℕ) → places ≤ length images → AreNew images places → other < places → place < other → image images place ≡ image images other → ⊥
not_twice images places place other le new within lt same =
    let longer : place < length images = omega arith in
    let inside : other < length images = omega arith in
    (new other within).1 (stands_before images other place (slice_index images other) lt (omega arith)
    (get_or_default images place (slice_index images other) place longer ∙ same ∙ at_place images other inside))

pub new_at_each : (images : List ℕ) → length images ≡ MAX_POINTERS → AreNew images (length images) → IsRenaming images
new_at_each images count new = record {
  count = count;
  within = λ place d within. let same = get_or_default images place d 0 within in rw same ((new place within).0);
  different = λ pointer other in_range other_in_range same. elim (cases_order pointer other) [
    | inl e ↦ e
    | inr o ↦ elim o [
      | inl h ↦ absurd (not_twice images (length images) pointer other (omega arith) new (omega arith) h same)
      | inr h ↦ absurd (not_twice images (length images) other pointer (omega arith) new (omega arith) h (sym same))
    ]
  ];
}

pub new_at : (images : List ℕ) (place : ℕ) → place < length images → IsRenaming images → (slice_index images place < MAX_POINTERS) × ¬ Contains (take place images) (slice_index images place)
new_at images place within renaming =
    let count = renaming.count in (
      renaming.within place 0 within,
      λ there.
          let before = stood_before images place (slice_index images place) (omega arith) there in
          let lt = before.1 in
          let longer : before.0 < length images = omega arith in
          let same : image images before.0 ≡ image images place =
          get_or_default images before.0 before.0 (slice_index images place) longer ∙ before.2 ∙ sym (at_place images place within) in
          let equal = renaming.different before.0 place (omega arith) (omega arith) same in
          omega arith,
    )
