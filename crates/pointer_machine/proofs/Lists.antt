-- The list of operations, as it grows.
use Rattle.std.proofs.Common.{◌≡◌, ℕ, ◌+◌, ◌^◌, ◌<◌, ◌≤◌, List, [], ◌∷◌, ◌++◌, length, map, take, drop, get_or, Some, ◌∙◌, ap, sym, arith}
use Rattle.std.specs.Prelude.{slice_get, flat_map}
use Rattle.std.specs.List.{range_with_len}
use Rattle.std.proofs.lemmas.List.{map_more, drop_more, append_assoc, append-nil, map-id, take_all, drop_all}
use Rattle.std.proofs.lemmas.List.FromFn.{map-range_with_len_more}
use Rattle.std.proofs.lemmas.Grind.{flat_map-append}
use Rattle.std.proofs.lemmas.Option.{slice_get_within, get_or_from_slice_get}
use Rattle.ground_state.specs.GroundAtoms.{tuples}
use Rattle.ground_state.proofs.Places.{length-tuples}
use Rattle.pointer_machine.specs.declared.form.Form.{Form}
use Rattle.pointer_machine.specs.Operations.{by_entry, pairs_of}

-- a pair with this first pointer
abbrev pub pair_with : ℕ → ℕ → ℕ × ℕ
pair_with pointer other = (pointer, other)

-- one more list of pointers
pub tuples_more : (form : List ℕ → Form) (pointers width place : ℕ) (args : List ℕ) (old now new : List Form) → slice_get (tuples pointers width) place ≡ Some args → now ≡ old ++ map form (take place (tuples pointers width)) → new ≡ now ++ form args ∷ [] → new ≡ old ++ map form (take (place + 1) (tuples pointers width))
tuples_more form pointers width place args old now new here so_far pushed =
    let all = tuples pointers width in
    let front = map form (take place all) in
    let more = map_more form all place args (slice_get_within all place args here) ∙ ap (λ last. front ++ form last ∷ []) (get_or_from_slice_get all place args args here) in
    pushed ∙ ap (λ items. items ++ form args ∷ []) so_far ∙ append_assoc old front (form args ∷ []) ∙ ap (λ items. old ++ items) (sym more)

-- all lists of pointers
pub tuples_all : (form : List ℕ → Form) (pointers width place : ℕ) → pointers ^ width ≤ place → map form (take place (tuples pointers width)) ≡ map form (tuples pointers width)
tuples_all form pointers width place over =
    ap (map form) (take_all place (tuples pointers width) (omega (arith, length-tuples pointers width)))

-- one more entry
pub entry_more : {E : Type 0} (width : E → ℕ) (form : ℕ → List ℕ → Form) (pointers number : ℕ) (entries : List E) (entry : E) (now new whole : List Form) → number < length entries → entry ≡ get_or entries number entry → new ≡ now ++ map (form number) (tuples pointers (width entry)) → now ++ by_entry width form pointers number (drop number entries) ≡ whole → new ++ by_entry width form pointers (number + 1) (drop (number + 1) entries) ≡ whole
entry_more width form pointers number entries entry now new whole within here added so_far =
    let rest = drop (number + 1) entries in
    let own = map (form number) (tuples pointers (width entry)) in
    let cut : drop number entries ≡ entry ∷ rest = drop_more entries number entry within ∙ ap (λ x. x ∷ rest) (sym here) in
    ap (λ items. items ++ by_entry width form pointers (number + 1) rest) added ∙ append_assoc now own (by_entry width form pointers (number + 1) rest) ∙ ap (λ entries. now ++ by_entry width form pointers number entries) (sym cut) ∙ so_far

-- all entries
pub entries_all : {E : Type 0} (width : E → ℕ) (form : ℕ → List ℕ → Form) (pointers number : ℕ) (entries : List E) (now : List Form) → length entries ≤ number → now ≡ now ++ by_entry width form pointers number (drop number entries)
entries_all width form pointers number entries now over =
    sym (ap (λ entries. now ++ by_entry width form pointers number entries) (drop_all number entries over) ∙ append-nil now)

-- one more number of a range
pub range_more : {A : Type 0} (f : ℕ → A) (from n number : ℕ) (old now new : List A) → from + n ≡ number → now ≡ old ++ map f (range_with_len from n) → new ≡ now ++ f number ∷ [] → new ≡ old ++ map f (range_with_len from (n + 1))
range_more f from n number old now new same so_far pushed =
    let front = map f (range_with_len from n) in
    pushed ∙ ap (λ items. items ++ f number ∷ []) so_far ∙ append_assoc old front (f number ∷ []) ∙ ap (λ items. old ++ items) (sym (map-range_with_len_more f from n number same))

-- the pairs of one more pointer
pub pairs_more : (pointers pointer : ℕ) (now new : List (ℕ × ℕ)) → now ≡ flat_map (pairs_of pointers) (range_with_len 0 pointer) → new ≡ now ++ pairs_of pointers pointer → new ≡ flat_map (pairs_of pointers) (range_with_len 0 (pointer + 1))
pairs_more pointers pointer now new so_far added =
    let numbers : range_with_len 0 (pointer + 1) ≡ range_with_len 0 pointer ++ pointer ∷ [] =
    sym (map-id (range_with_len 0 (pointer + 1))) ∙ map-range_with_len_more (λ k. k) 0 pointer pointer (omega arith) ∙ ap (λ numbers. numbers ++ pointer ∷ []) (map-id (range_with_len 0 pointer)) in
    let all : flat_map (pairs_of pointers) (range_with_len 0 (pointer + 1)) ≡ flat_map (pairs_of pointers) (range_with_len 0 pointer) ++ pairs_of pointers pointer =
    ap (flat_map (pairs_of pointers)) numbers
    ∙ flat_map-append (pairs_of pointers) (range_with_len 0 pointer) (pointer ∷ [])
    ∙ ap (λ pairs. flat_map (pairs_of pointers) (range_with_len 0 pointer) ++ pairs) (append-nil (pairs_of pointers pointer)) in
    added ∙ ap (λ pairs. pairs ++ pairs_of pointers pointer) so_far ∙ sym all
