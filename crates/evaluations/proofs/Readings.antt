-- A text has at most one reading.
use Rattle.std.proofs.Common.{◌≡◌, ◌∙◌, inl, inr, ℕ, zero, suc, ◌<◌, ◌≤◌, List, [], ◌∷◌, ◌++◌, length, map, take, get_or, Some, refl, sym, ap, subst, arith}
use Rattle.std.specs.Prelude.{slice_get, Result, Ok, Err}
use Rattle.std.proofs.lemmas.Bool.{cases_order}
use Rattle.std.proofs.lemmas.List.{length-map, take_all, take-map, take-take, get_or-take}
use Rattle.std.proofs.lemmas.Option.{same_Some, slice_get_within, get_or_from_slice_get}
use Rattle.evaluations.specs.declared.evaluation.Evaluation.{Evaluation}
use Rattle.evaluations.specs.declared.evaluation.Evaluation.TheVariants.{Jumps, UndefinedLines, RepeatedInstructions, LinesBehind, MissingAtoms, Steps}
use Rattle.evaluations.specs.declared.refusal.OrderRefusal.{OrderRefusal}
use Rattle.evaluations.specs.declared.refusal.OrderRefusal.TheVariants.{Empty, Name, Repeated}
use Rattle.evaluations.specs.Orders.{COMMA, name_of, order_text, entries_of, IsOrder, AreEntriesBefore, IsNoName, IsRepeatedName, IsReadOrder}
use Rattle.evaluations.proofs.Named.{same_from_name, same_from_names}

-- the entries of the text of an order are its names
first_entry : (evaluation : Evaluation) (text : List ℕ) → entries_of (name_of evaluation ++ COMMA ∷ text) ≡ name_of evaluation ∷ entries_of text
first_entry Jumps text = refl
first_entry UndefinedLines text = refl
first_entry RepeatedInstructions text = refl
first_entry LinesBehind text = refl
first_entry MissingAtoms text = refl
first_entry Steps text = refl

last_entry : (evaluation : Evaluation) → entries_of (name_of evaluation) ≡ name_of evaluation ∷ []
last_entry Jumps = refl
last_entry UndefinedLines = refl
last_entry RepeatedInstructions = refl
last_entry LinesBehind = refl
last_entry MissingAtoms = refl
last_entry Steps = refl

names_apart : (order : List Evaluation) → 0 < length order → entries_of (order_text order) ≡ map name_of order
names_apart [] some = absurd (omega (arith, some))
names_apart (evaluation ∷ []) some = last_entry evaluation
names_apart (evaluation ∷ second ∷ order) some =
    first_entry evaluation (order_text (second ∷ order)) ∙ ap (λ names. name_of evaluation ∷ names) (names_apart (second ∷ order) (omega arith))

names_read : (text : List ℕ) (order : List Evaluation) → IsReadOrder text (Ok order) → entries_of text ≡ map name_of order
names_read text order is = ap entries_of is.1 ∙ names_apart order is.0.some

-- all entries of a text that is read come before its end
all_before : (text : List ℕ) (order : List Evaluation) → IsReadOrder text (Ok order) → AreEntriesBefore text (length (entries_of text)) order
all_before text order is =
    let named = names_read text order is in
    record {
      count = sym (ap length named ∙ length-map order name_of);
      named = take_all (length (entries_of text)) (entries_of text) (omega arith) ∙ named;
      different = is.0.different;
    }

-- an entry before a place is a name
mapped_at : (earlier : List Evaluation) (place : ℕ) (entry : List ℕ) → place < length earlier → (evaluation : Evaluation) × (get_or (map name_of earlier) place entry ≡ name_of evaluation) × ((d : Evaluation) → get_or earlier place d ≡ evaluation)
mapped_at [] place entry within = absurd (omega (arith, within))
mapped_at (evaluation ∷ earlier) zero entry within = (evaluation, refl, λ d. refl)
mapped_at (evaluation ∷ earlier) (suc place) entry within = mapped_at earlier place entry (omega (arith, within))

name_at : (text : List ℕ) (place here : ℕ) (earlier : List Evaluation) (entry : List ℕ) → AreEntriesBefore text place earlier → here < place → slice_get (entries_of text) here ≡ Some entry → (evaluation : Evaluation) × (entry ≡ name_of evaluation) × ((d : Evaluation) → get_or earlier here d ≡ evaluation)
name_at text place here earlier entry before within is =
    let found = mapped_at earlier here entry (omega (arith, within, before.count)) in (
      found.0,
      sym (get_or_from_slice_get (entries_of text) here entry entry is)
          ∙ sym (get_or-take place (entries_of text) here entry within)
          ∙ ap (λ (names : List (List ℕ)). get_or names here entry) before.named
          ∙ found.1,
      found.2,
    )

no_name_before : (text : List ℕ) (place here : ℕ) (earlier : List Evaluation) → AreEntriesBefore text place earlier → IsNoName text here → here < place → ⊥
no_name_before text place here earlier before none within =
    let found = name_at text place here earlier none.entry before within none.here in
    none.no_name found.0 (sym found.1)

-- what stands before an earlier place stands before a later one
earlier_before : (text : List ℕ) (place here : ℕ) (earlier first : List Evaluation) → AreEntriesBefore text place earlier → AreEntriesBefore text here first → here ≤ place → first ≡ take here earlier
earlier_before text place here earlier first before begun within =
    same_from_names first (take here earlier)
    (sym begun.named ∙ sym (take-take here place (entries_of text) within) ∙ ap (take here) before.named ∙ take-map name_of here earlier)

none_repeated_before : (text : List ℕ) (place here : ℕ) (earlier : List Evaluation) → AreEntriesBefore text place earlier → IsRepeatedName text here → here < place → ⊥
none_repeated_before text place here earlier before again within =
    let found = name_at text place here earlier (name_of again.evaluation) before within again.here in
    let first : again.earlier ≡ take here earlier = earlier_before text place here earlier again.earlier before again.before (omega (arith, within)) in
    let k = again.repeated.0 in
    let early : k < here = omega (arith, again.repeated.1, again.before.count) in
    let there : get_or earlier k again.evaluation ≡ again.evaluation =
    sym (get_or-take here earlier k again.evaluation early) ∙ ap (λ (l : List Evaluation). get_or l k again.evaluation) (sym first) ∙ again.repeated.2 in
    before.different k here again.evaluation early (omega (arith, within, before.count))
    (there ∙ same_from_name again.evaluation found.0 found.1 ∙ sym (found.2 again.evaluation))

name_or_none : (text : List ℕ) (place : ℕ) → IsNoName text place → IsRepeatedName text place → ⊥
name_or_none text place none again = none.no_name again.evaluation (same_Some (name_of again.evaluation) none.entry (sym again.here ∙ none.here))

-- an order, and each refusal, leave no other reading
no_empty_order : (order : List Evaluation) → IsOrder order → order_text order ≡ [] → ⊥
no_empty_order order is empty =
    let entries : map name_of order ≡ [] ∷ [] = sym (names_apart order is.some) ∙ ap entries_of empty in
    no_empty_name order is.some (ap (λ (names : List (List ℕ)). length (get_or names 0 (0 ∷ []))) entries)
  where
    two : (evaluation : Evaluation) → length (name_of evaluation) ≡ 2
    two Jumps = refl
    two UndefinedLines = refl
    two RepeatedInstructions = refl
    two LinesBehind = refl
    two MissingAtoms = refl
    two Steps = refl

    no_empty_name : (order : List Evaluation) → 0 < length order → length (get_or (map name_of order) 0 (0 ∷ [])) ≡ 0 → ⊥
    no_empty_name [] some none = omega (arith, some)
    no_empty_name (evaluation ∷ order) some none = omega (arith, none, two evaluation)

order_or_no_name : (text : List ℕ) (order : List Evaluation) (place : ℕ) → IsReadOrder text (Ok order) → IsNoName text place → ⊥
order_or_no_name text order place is none =
    no_name_before text (length (entries_of text)) place order (all_before text order is) none (slice_get_within (entries_of text) place none.entry none.here)

order_or_repeated : (text : List ℕ) (order : List Evaluation) (place : ℕ) → IsReadOrder text (Ok order) → IsRepeatedName text place → ⊥
order_or_repeated text order place is again =
    none_repeated_before text (length (entries_of text)) place order (all_before text order is) again
    (slice_get_within (entries_of text) place (name_of again.evaluation) again.here)

no_name_or_repeated : (text : List ℕ) (place other : ℕ) → IsNoName text place → IsRepeatedName text other → ⊥
no_name_or_repeated text place other none again =
    elim (cases_order place other) [
      | inl e ↦ name_or_none text place none (subst (IsRepeatedName text) (sym e) again)
      | inr o ↦ elim o [ inl h ↦ no_name_before text other place again.earlier again.before none h | inr h ↦ none_repeated_before text place other none.earlier none.before again h ]
    ]

one_no_name : (text : List ℕ) (place other : ℕ) → IsNoName text place → IsNoName text other → place ≡ other
one_no_name text place other one two =
    elim (cases_order place other) [
      | inl e ↦ e
      | inr o ↦ elim o [ inl h ↦ absurd (no_name_before text other place two.earlier two.before one h) | inr h ↦ absurd (no_name_before text place other one.earlier one.before two h) ]
    ]

one_repeated : (text : List ℕ) (place other : ℕ) → IsRepeatedName text place → IsRepeatedName text other → place ≡ other
one_repeated text place other one two =
    elim (cases_order place other) [
      | inl e ↦ e
      | inr o ↦ elim o [ inl h ↦ absurd (none_repeated_before text other place two.earlier two.before one h) | inr h ↦ absurd (none_repeated_before text place other one.earlier one.before two h) ]
    ]

pub one_reading : (text : List ℕ) (one other : Result (List Evaluation) OrderRefusal) → IsReadOrder text one → IsReadOrder text other → one ≡ other
one_reading text (Ok order) (Ok second) x y = ap Ok (same_from_names order second (sym (names_read text order x) ∙ names_read text second y))
one_reading text (Ok order) (Err Empty) x y = absurd (no_empty_order order x.0 (sym x.1 ∙ y))
one_reading text (Ok order) (Err (Name place)) x y = absurd (order_or_no_name text order place x y.1)
one_reading text (Ok order) (Err (Repeated place)) x y = absurd (order_or_repeated text order place x y.1)
one_reading text (Err Empty) (Ok order) x y = absurd (no_empty_order order y.0 (sym y.1 ∙ x))
one_reading text (Err Empty) (Err Empty) x y = refl
one_reading text (Err Empty) (Err (Name place)) x y = absurd (y.0 x)
one_reading text (Err Empty) (Err (Repeated place)) x y = absurd (y.0 x)
one_reading text (Err (Name place)) (Ok order) x y = absurd (order_or_no_name text order place y x.1)
one_reading text (Err (Name place)) (Err Empty) x y = absurd (x.0 y)
one_reading text (Err (Name place)) (Err (Name other)) x y = ap (λ n. Err (Name n)) (one_no_name text place other x.1 y.1)
one_reading text (Err (Name place)) (Err (Repeated other)) x y = absurd (no_name_or_repeated text place other x.1 y.1)
one_reading text (Err (Repeated place)) (Ok order) x y = absurd (order_or_repeated text order place y x.1)
one_reading text (Err (Repeated place)) (Err Empty) x y = absurd (x.0 y)
one_reading text (Err (Repeated place)) (Err (Name other)) x y = absurd (no_name_or_repeated text other place y.1 x.1)
one_reading text (Err (Repeated place)) (Err (Repeated other)) x y = ap (λ n. Err (Repeated n)) (one_repeated text place other x.1 y.1)
