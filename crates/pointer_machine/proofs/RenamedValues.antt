-- Values over renamed pointers.
use Rattle.std.proofs.Common.{◌≡◌, ◌≢◌, ℕ, ◌+◌, ◌-◌, ◌<◌, Bool, true, false, nat_lt, if◌then◌else◌, List, [], ◌∷◌, length, map, replicate, get_or, set, All, refl, ◌∙◌, inl, inr, ap, sym, arith}
use Rattle.std.specs.Prelude.{◌==◌, slice_index, slice_set, pos, ◌-ℤ◌}
use Rattle.std.proofs.lemmas.Bool.{cases_eq, cases_lt, eqb-true, eq-eqb, ne_eqb}
use Rattle.std.proofs.lemmas.List.{length-set, get_or_default, get_or_past, get_or-set_same, get_or-set_other, get_or-replicate, same_lists}
use Rattle.std.proofs.lemmas.List.Elements.{All-head, All-tail}
use Rattle.std.proofs.lemmas.List.FromFn.{get_or-map-range_with_len, length-map-range_with_len}
use Rattle.std.proofs.lemmas.List.Sums.{position_or_len_is, passes_at_first}
use Rattle.program_model.specs.declared.machine.TheConstants.{MAX_POINTERS}
use Rattle.program_model.specs.Renaming.{image, IsRenaming, IsRenamingOf}
use Rattle.ground_state.specs.declared.parts.TaskParts.{TaskParts}
use Rattle.ground_state.specs.State.{State, is_true}
use Rattle.ground_state.specs.Ground.{Ground}
use Rattle.ground_state.specs.Action.{is_applicable, state_after}
use Rattle.pointer_machine.specs.declared.form.Form.{Form}
use Rattle.pointer_machine.specs.declared.form.Form.TheVariants.{Act, Test, Inc, Dec, Clear, Set, Cmp}
use Rattle.pointer_machine.specs.declared.pointing.Pointing.{Pointing}
use Rattle.pointer_machine.specs.Meaning.{IsValueOf, Effect, effect, objects_at}
use Rattle.pointer_machine.proofs.Values.{get_or-zeros}
use Rattle.pointer_machine.specs.Renamed.{pointers_in, renamed_form, old_number, renamed_objects}

-- a renaming has a new number for each pointer, whatever stands for those past the last
image_is : (by : List ℕ) (pointer d : ℕ) → pointer < length by → image by pointer ≡ get_or by pointer d
image_is by pointer d low = get_or_default by pointer pointer d low

-- a new number is a pointer's
pub image_low : (by : List ℕ) (pointer : ℕ) → IsRenaming by → pointer < MAX_POINTERS → image by pointer < MAX_POINTERS
image_low by pointer fits low = fits.within pointer pointer (omega (arith, fits.count))

-- the old number of a pointer's new number is its own
pub old_number-image : (by : List ℕ) (pointer : ℕ) → IsRenaming by → pointer < MAX_POINTERS → old_number by (image by pointer) ≡ pointer
old_number-image by pointer fits low =
    let number = image by pointer in
    position_or_len_is (λ new. new == number) by pointer 0 (omega (arith, fits.count))
    (λ k before. ne_eqb (get_or by k 0) number (λ same.
    let twice : image by k ≡ number = image_is by k 0 (omega (arith, fits.count)) ∙ same in
    let one : k ≡ pointer = fits.different k pointer (omega arith) low twice in
    omega arith))
    (λ within. eq-eqb (get_or by pointer 0) number (sym (image_is by pointer 0 within)))

-- what has an old number is the new number of that
old_number_low : (by : List ℕ) (number : ℕ) → IsRenaming by → old_number by number < MAX_POINTERS → image by (old_number by number) ≡ number
old_number_low by number fits low =
    let old = old_number by number in
    let within : old < length by = omega (arith, fits.count) in
    image_is by old 0 within ∙ eqb-true (get_or by old 0) number (passes_at_first (λ new. new == number) by 0 within)

-- the object under a number
pub object_under : (by objects : List ℕ) (number d : ℕ) → number < MAX_POINTERS → get_or (renamed_objects by objects) number d ≡ slice_index objects (old_number by number)
object_under by objects number d low =
    get_or-map-range_with_len (λ number. slice_index objects (old_number by number)) 0 MAX_POINTERS number number d low (omega arith)

pub length-renamed : (by objects : List ℕ) → length (renamed_objects by objects) ≡ MAX_POINTERS
length-renamed by objects = length-map-range_with_len (λ number. slice_index objects (old_number by number)) 0 MAX_POINTERS

-- a pointer's new number has the object that the pointer had
pub renamed_image : (by objects : List ℕ) (pointer : ℕ) → IsRenaming by → pointer < MAX_POINTERS → slice_index (renamed_objects by objects) (image by pointer) ≡ slice_index objects pointer
renamed_image by objects pointer fits low =
    object_under by objects (image by pointer) 0 (image_low by pointer fits low) ∙ ap (slice_index objects) (old_number-image by pointer fits low)

-- moving a pointer and then renaming is renaming and then moving the renamed pointer
renamed-set : (by objects : List ℕ) (pointer object : ℕ) → IsRenaming by → length objects ≡ MAX_POINTERS → pointer < MAX_POINTERS → slice_set (renamed_objects by objects) (image by pointer) object ≡ renamed_objects by (slice_set objects pointer object)
renamed-set by objects pointer object fits long low =
    let new = image by pointer in
    let renamed = renamed_objects by objects in
    let new_low = image_low by pointer fits low in
    let moved = set objects pointer object in
    same_lists (set renamed new object) (renamed_objects by moved)
    (length-set renamed new object ∙ length-renamed by objects ∙ sym (length-renamed by moved))
    (λ number d within.
    let number_low : number < MAX_POINTERS = omega (arith, length-set renamed new object, length-renamed by objects) in
    let right : get_or (renamed_objects by moved) number d ≡ slice_index moved (old_number by number) = object_under by moved number d number_low in
    elim (cases_eq number new) [
      | inl same ↦ (let old : old_number by number ≡ pointer = ap (old_number by) same ∙ old_number-image by pointer fits low in
          let left : get_or (set renamed new object) number d ≡ object = ap (λ number. get_or (set renamed new object) number d) same ∙ get_or-set_same renamed new object d (omega (arith, length-renamed by objects)) in
          left ∙ sym (right ∙ ap (slice_index moved) old ∙ get_or-set_same objects pointer object 0 (omega arith)))
      | inr other ↦ (let old = old_number by number in
          let apart : old ≢ pointer = λ same. other (sym (old_number_low by number fits (omega arith)) ∙ ap (image by) same) in
          get_or-set_other renamed new number object d other ∙ object_under by objects number d number_low ∙ sym (right ∙ get_or-set_other objects pointer old object 0 apart))
    ])

-- renamed pointers stand at the same objects
objects-renamed : (by objects args : List ℕ) → IsRenaming by → All (λ pointer. pointer < MAX_POINTERS) args → objects_at (renamed_objects by objects) (map (image by) args) ≡ objects_at objects args
objects-renamed by objects [] fits low = refl
objects-renamed by objects (pointer ∷ args) fits low =
    let P : ℕ → Type 0 = λ pointer. pointer < MAX_POINTERS in
    let first = renamed_image by objects pointer fits (All-head P pointer args low) in
    let rest = objects-renamed by objects args fits (All-tail P pointer args low) in
    λ i. first i ∷ rest i

-- an effect over renamed pointers
abbrev pub renamed_effect : List ℕ → Effect → Effect
renamed_effect by done = record { pointers = renamed_objects by done.pointers; atoms = done.atoms; res = done.res }

either_renamed : (by : List ℕ) (b : Bool) (one other first second : Effect) → first ≡ renamed_effect by one → second ≡ renamed_effect by other → (if b then first else second) ≡ renamed_effect by (if b then one else other)
either_renamed by true one other first second forth back = forth
either_renamed by false one other first second forth back = back

-- acting and testing at some objects, and an effect on the pointers alone
abbrev act_at : TaskParts → Ground → ℕ → List ℕ → List ℕ → State → Effect
act_at task table schema objects pointers atoms = record {
  pointers = pointers;
  atoms = state_after task table schema objects atoms;
  res = pos (if is_applicable task table schema objects atoms then 1 else 0);
}

abbrev test_at : Ground → ℕ → List ℕ → List ℕ → State → Effect
test_at table pred objects pointers atoms = record {
  pointers = pointers;
  atoms = atoms;
  res = pos (if is_true (length table.object_types) table.arities atoms (record { pred = pred; args = objects }) then 1 else 0);
}

abbrev moved : List ℕ → State → ℕ → Effect
moved pointers atoms number = record { pointers = pointers; atoms = atoms; res = pos number }

-- moving a pointer on and back from an object
abbrev inc_at : Ground → ℕ → ℕ → List ℕ → State → Effect
inc_at table pointer object pointers atoms = if nat_lt (object + 1) (length table.object_types) then moved (slice_set pointers pointer (object + 1)) atoms 1 else moved pointers atoms 0

abbrev dec_at : ℕ → ℕ → List ℕ → State → Effect
dec_at pointer object pointers atoms = if nat_lt 0 object then moved (slice_set pointers pointer (object - 1)) atoms 1 else moved pointers atoms 0

-- the renamed operation on renamed pointers has the renamed effect
pub effect-renamed : (task : TaskParts) (table : Ground) (by : List ℕ) (form : Form) (objects : List ℕ) (atoms : State) → IsRenaming by → length objects ≡ MAX_POINTERS → All (λ pointer. pointer < MAX_POINTERS) (pointers_in form) → effect task table (renamed_form by form) (renamed_objects by objects) atoms ≡ renamed_effect by (effect task table form objects atoms)
effect-renamed task table by (Act schema args) objects atoms fits long low =
    ap (λ at. act_at task table schema at (renamed_objects by objects) atoms) (objects-renamed by objects args fits low)
effect-renamed task table by (Test pred args) objects atoms fits long low =
    ap (λ at. test_at table pred at (renamed_objects by objects) atoms) (objects-renamed by objects args fits low)
effect-renamed task table by (Inc pointer) objects atoms fits long low =
    let known = All-head (λ pointer. pointer < MAX_POINTERS) pointer [] low in
    let same = renamed_image by objects pointer fits known in
    let object = slice_index objects pointer in
    ap (λ object. inc_at table (image by pointer) object (renamed_objects by objects) atoms) same
    ∙ either_renamed by (nat_lt (object + 1) (length table.object_types)) (moved (slice_set objects pointer (object + 1)) atoms 1) (moved objects atoms 0) (moved (slice_set (renamed_objects by objects) (image by pointer) (object + 1)) atoms 1) (moved (renamed_objects by objects) atoms 0)
    (ap (λ pointers. moved pointers atoms 1) (renamed-set by objects pointer (object + 1) fits long known))
    refl
effect-renamed task table by (Dec pointer) objects atoms fits long low =
    let known = All-head (λ pointer. pointer < MAX_POINTERS) pointer [] low in
    let same = renamed_image by objects pointer fits known in
    let object = slice_index objects pointer in
    ap (λ object. dec_at (image by pointer) object (renamed_objects by objects) atoms) same
    ∙ either_renamed by (nat_lt 0 object) (moved (slice_set objects pointer (object - 1)) atoms 1) (moved objects atoms 0) (moved (slice_set (renamed_objects by objects) (image by pointer) (object - 1)) atoms 1) (moved (renamed_objects by objects) atoms 0)
    (ap (λ pointers. moved pointers atoms 1) (renamed-set by objects pointer (object - 1) fits long known))
    refl
effect-renamed task table by (Clear pointer) objects atoms fits long low =
    let known = All-head (λ pointer. pointer < MAX_POINTERS) pointer [] low in
    ap (λ pointers. moved pointers atoms 0) (renamed-set by objects pointer 0 fits long known)
effect-renamed task table by (Set pointer other) objects atoms fits long low =
    let P : ℕ → Type 0 = λ pointer. pointer < MAX_POINTERS in
    let known = All-head P pointer (other ∷ []) low in
    let same = renamed_image by objects other fits (All-head P other [] (All-tail P pointer (other ∷ []) low)) in
    let pointers = ap (slice_set (renamed_objects by objects) (image by pointer)) same ∙ renamed-set by objects pointer (slice_index objects other) fits long known in
    λ i. moved (pointers i) atoms (same i)
effect-renamed task table by (Cmp pointer other) objects atoms fits long low =
    let P : ℕ → Type 0 = λ pointer. pointer < MAX_POINTERS in
    let first = renamed_image by objects pointer fits (All-head P pointer (other ∷ []) low) in
    let second = renamed_image by objects other fits (All-head P other [] (All-tail P pointer (other ∷ []) low)) in
    λ i. record { pointers = renamed_objects by objects; atoms = atoms; res = pos (first i) -ℤ pos (second i) }

-- ---- whole values
-- a value over renamed pointers
abbrev pub renamed_value : List ℕ → Pointing → Pointing
renamed_value by value = record { pointers = renamed_objects by value.pointers; sign = value.sign; atoms = value.atoms }

-- it is one of the instance
pub renamed_is : (table : Ground) (used : ℕ) (by : List ℕ) (value : Pointing) → IsRenamingOf used by → IsValueOf table used value → IsValueOf table used (renamed_value by value)
renamed_is table used by value fits is = record {
  pointers = length-renamed by value.pointers;
  objects = λ number d within.
      let low : number < MAX_POINTERS = omega (arith, length-renamed by value.pointers) in
      let some : 0 < length table.object_types = omega (arith, is.objects 0 0 (omega (arith, is.pointers))) in
      let old = old_number by number in
      rw (object_under by value.pointers number d low) (elim (cases_lt old (length value.pointers)) [
        | inl known ↦ is.objects old 0 known
        | inr past ↦ rw (get_or_past value.pointers old 0 past) some
      ]);
  unused = λ number over. elim (cases_lt number MAX_POINTERS) [
    | inr past ↦ get_or_past (renamed_objects by value.pointers) number 0 (omega (arith, length-renamed by value.pointers))
    | inl low ↦ (let old = old_number by number in
        object_under by value.pointers number 0 low ∙ elim (cases_lt old (length value.pointers)) [
          | inr past ↦ get_or_past value.pointers old 0 past
          | inl known ↦ (let new : image by old ≡ number = old_number_low by number fits.is_renaming (omega (arith, is.pointers)) in
              is.unused old (elim (cases_lt old used) [
                | inl own ↦ absurd (omega (arith, new, fits.among old own))
                | inr not_own ↦ not_own
              ]))
        ])
  ];
  atoms = is.atoms;
}

-- where all pointers are at object 0, they are after renaming
pub start-renamed : (by : List ℕ) → renamed_objects by (replicate MAX_POINTERS 0) ≡ replicate MAX_POINTERS 0
start-renamed by =
    let zeros = replicate MAX_POINTERS 0 in
    same_lists (renamed_objects by zeros) zeros (length-renamed by zeros) (λ number d within.
    let low : number < MAX_POINTERS = omega (arith, length-renamed by zeros) in
    object_under by zeros number d low ∙ get_or-zeros MAX_POINTERS (old_number by number) ∙ sym (get_or-replicate MAX_POINTERS number 0 d low))

-- values that are the same after renaming are the same
pub same-renamed : (by : List ℕ) (value other : Pointing) → IsRenaming by → length value.pointers ≡ MAX_POINTERS → length other.pointers ≡ MAX_POINTERS → renamed_value by value ≡ renamed_value by other → value ≡ other
same-renamed by value other fits long other_long same =
    let objects : renamed_objects by value.pointers ≡ renamed_objects by other.pointers = ap (λ (value : Pointing). value.pointers) same in
    let sign = ap (λ (value : Pointing). value.sign) same in
    let atoms = ap (λ (value : Pointing). value.atoms) same in
    let pointers : value.pointers ≡ other.pointers = same_lists value.pointers other.pointers (long ∙ sym other_long) (λ pointer d within.
    let low : pointer < MAX_POINTERS = omega (arith, long) in
    get_or_default value.pointers pointer d 0 within
    ∙ sym (renamed_image by value.pointers pointer fits low)
    ∙ ap (λ objects. slice_index objects (image by pointer)) objects
    ∙ renamed_image by other.pointers pointer fits low
    ∙ get_or_default other.pointers pointer 0 d (omega (arith, other_long))) in
    λ i. record { pointers = pointers i; sign = sign i; atoms = atoms i }
