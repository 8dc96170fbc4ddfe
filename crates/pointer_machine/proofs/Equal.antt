-- When two operations are the same.
use Rattle.std.proofs.Common.{◌≡◌, ℕ, ◌<◌, true, false, List, length, get_or, Some, None, Option, ◌∙◌, ap, Contains, MatchOption, arith}
use Rattle.std.specs.Prelude.{slice_get}
use Rattle.std.specs.List.{AllWithin, HoldsAt}
use Rattle.std.proofs.lemmas.Bool.{and_parts, eqb-true}
use Rattle.std.proofs.lemmas.Option.{slice_get-get_or}
use Rattle.std.proofs.lemmas.Slice.Eq.{bytes_eq-Decides}
use Rattle.pointer_machine.specs.declared.form.Form.{Form}
use Rattle.pointer_machine.specs.declared.form.Form.TheVariants.{Act, Test, Inc, Dec, Clear, Set, Cmp}
use Rattle.pointer_machine.specs.Renamed.{is_same}
use Rattle.pointer_machine.specs.contracts.form.FormEq.TheImpl.Laws.{laws-law}

pub same_from_test : (one other : Form) → is_same one other ≡ true → one ≡ other
same_from_test (Act schema args) (Act number pointers) h =
    let parts = and_parts _ _ h in
    let numbers = eqb-true schema number parts.0 in
    let lists = (bytes_eq-Decides args pointers).0 parts.1 in
    λ i. Act (numbers i) (lists i)
same_from_test (Test pred args) (Test number pointers) h =
    let parts = and_parts _ _ h in
    let numbers = eqb-true pred number parts.0 in
    let lists = (bytes_eq-Decides args pointers).0 parts.1 in
    λ i. Test (numbers i) (lists i)
same_from_test (Inc pointer) (Inc other) h = ap Inc (eqb-true pointer other h)
same_from_test (Dec pointer) (Dec other) h = ap Dec (eqb-true pointer other h)
same_from_test (Clear pointer) (Clear other) h = ap Clear (eqb-true pointer other h)
same_from_test (Set a b) (Set c d) h =
    let parts = and_parts _ _ h in
    let ones = eqb-true a c parts.0 in
    let others = eqb-true b d parts.1 in
    λ i. Set (ones i) (others i)
same_from_test (Cmp a b) (Cmp c d) h =
    let parts = and_parts _ _ h in
    let ones = eqb-true a c parts.0 in
    let others = eqb-true b d parts.1 in
    λ i. Cmp (ones i) (others i)
same_from_test one other h = cc

-- the place that a search finds
pub found_at : (forms : List Form) (form : Form) (found : Option ℕ) → MatchOption found (AllWithin (λ own. is_same own form ≡ false) forms 0 (length forms)) (λ place. (place < length forms) × HoldsAt (λ own. is_same own form ≡ true) forms place × AllWithin (λ own. is_same own form ≡ false) forms 0 place) → MatchOption found (Contains forms form → ⊥) (λ place. slice_get forms place ≡ Some form)
found_at forms form None none = λ among.
    let no : is_same form form ≡ false = rw among.2 at (none among.0 form (omega arith) among.1) in
    let yes : is_same form form ≡ true = laws-law.refl form in
    absurd (cc)
found_at forms form (Some place) here =
    slice_get-get_or forms place form here.0 ∙ ap (λ form. Some form) (same_from_test (get_or forms place form) form (here.1 form))
