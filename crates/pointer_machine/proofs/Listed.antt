-- Each operation over the pointers is listed, at one number.
use Rattle.std.proofs.Common.{◌≡◌, ◌≢◌, ℕ, zero, suc, ◌+◌, ◌-◌, ◌*◌, ◌^◌, ◌<◌, ◌≤◌, List, [], ◌∷◌, ◌++◌, length, map, get_or, All, Some, refl, ◌∙◌, inl, inr, ap, sym, arith, zero-add}
use Rattle.std.specs.Prelude.{slice_get, flat_map}
use Rattle.std.specs.List.{range_with_len}
use Rattle.std.proofs.lemmas.Bool.{cases_lt, false_from_ne_true}
use Rattle.std.proofs.lemmas.List.Elements.{All-head, All-tail}
use Rattle.std.proofs.lemmas.List.FromFn.{get_or-range_with_len, length-range_with_len}
use Rattle.std.proofs.lemmas.List.Sums.{position_or_len_is}
use Rattle.std.proofs.lemmas.Option.{slice_get-get_or, slice_get_within, get_or_from_slice_get}
use Rattle.ground_state.specs.declared.parts.TaskParts.{TaskParts}
use Rattle.ground_state.specs.GroundAtoms.{tuples}
use Rattle.ground_state.specs.Action.{schema_of}
use Rattle.ground_state.proofs.Places.{tuple_place}
use Rattle.ground_state.proofs.Lists.{slice_get-append_first, slice_get-append_second, slice_get-map_at}
use Rattle.pointer_machine.specs.contracts.form.FormEq.TheImpl.Laws.{laws-law}
use Rattle.pointer_machine.specs.declared.form.Form.{Form}
use Rattle.pointer_machine.specs.declared.form.Form.TheVariants.{Act, Test, Inc, Dec, Clear, Set, Cmp}
use Rattle.pointer_machine.specs.Operations.{operations_of, by_entry, params_of, arity_of, others, pairs_of, pairs, predicate_of, IsForm}
use Rattle.pointer_machine.specs.Renamed.{is_same, number_in}
use Rattle.pointer_machine.proofs.Equal.{same_from_test}
use Rattle.pointer_machine.proofs.Once.{operations_once}

-- an item stands in a list
pub record IsListed {X : Type 0} (xs : List X) (x : X) : Type 0 where
  pub place : ℕ
  pub here : slice_get xs place ≡ Some x

listed-first : {X : Type 0} (xs ys : List X) (x : X) → IsListed xs x → IsListed (xs ++ ys) x
listed-first xs ys x listed = record { place = listed.place; here = slice_get-append_first xs ys listed.place x listed.here }

listed-second : {X : Type 0} (xs ys : List X) (x : X) → IsListed ys x → IsListed (xs ++ ys) x
listed-second xs ys x listed = record { place = length xs + listed.place; here = slice_get-append_second xs ys listed.place ∙ listed.here }

listed-map : {X Y : Type 0} (f : X → Y) (xs : List X) (x : X) → IsListed xs x → IsListed (map f xs) (f x)
listed-map f xs x listed = record { place = listed.place; here = slice_get-map_at f xs listed.place x listed.here }

listed-flat_map : {X Y : Type 0} (f : X → List Y) (xs : List X) (n : ℕ) (x : X) (y : Y) → slice_get xs n ≡ Some x → IsListed (f x) y → IsListed (flat_map f xs) y
listed-flat_map f [] n x y here listed = absurd (cc)
listed-flat_map f (first ∷ xs) zero x y here listed =
    let same : first ≡ x = cc in
    listed-first (f first) (flat_map f xs) y (rw same listed)
listed-flat_map f (first ∷ xs) (suc n) x y here listed =
    listed-second (f first) (flat_map f xs) y (listed-flat_map f xs n x y here listed)

listed-range : (from count n : ℕ) → from ≤ n → n < from + count → IsListed (range_with_len from count) n
listed-range from count n low high =
    let numbers = range_with_len from count in
    let place = n - from in
    let within : place < count = omega arith in
    let is : get_or numbers place 0 ≡ n = get_or-range_with_len from count place 0 within ∙ omega arith in
    record { place = place; here = slice_get-get_or numbers place 0 (omega (arith, length-range_with_len from count)) ∙ ap (λ n. Some n) is }

listed-tuple : (pointers params : ℕ) (args : List ℕ) → length args ≡ params → All (λ pointer. pointer < pointers) args → IsListed (tuples pointers params) args
listed-tuple pointers zero [] count low = record { place = 0; here = refl }
listed-tuple pointers (suc params) [] count low = absurd (omega arith)
listed-tuple pointers zero (first ∷ args) count low = absurd (omega arith)
listed-tuple pointers (suc params) (first ∷ args) count low =
    let P : ℕ → Type 0 = λ pointer. pointer < pointers in
    let rest = listed-tuple pointers params args (omega arith) (All-tail P first args low) in
    record { place = first * pointers ^ params + rest.place; here = tuple_place pointers params first rest.place args (All-head P first args low) rest.here }

listed-by_entry : {E : Type 0} (width : E → ℕ) (form : ℕ → List ℕ → Form) (pointers number : ℕ) (entries : List E) (n : ℕ) (entry : E) (args : List ℕ) → slice_get entries n ≡ Some entry → IsListed (tuples pointers (width entry)) args → IsListed (by_entry width form pointers number entries) (form (number + n) args)
listed-by_entry width form pointers number [] n entry args known listed = absurd (cc)
listed-by_entry width form pointers number (first ∷ entries) zero entry args known listed =
    let same : first ≡ entry = cc in
    let own : IsListed (tuples pointers (width first)) args = rw same listed in
    let is : number + zero ≡ number = omega arith in
    rw is (listed-first (map (form number) (tuples pointers (width first))) (by_entry width form pointers (number + 1) entries) (form number args) (listed-map (form number) (tuples pointers (width first)) args own))
listed-by_entry width form pointers number (first ∷ entries) (suc n) entry args known listed =
    let is : number + suc n ≡ number + 1 + n = omega arith in
    rw is (listed-second (map (form number) (tuples pointers (width first))) (by_entry width form pointers (number + 1) entries) _ (listed-by_entry width form pointers (number + 1) entries n entry args known listed))

listed-pair : (pointers one other : ℕ) → one < pointers → other < pointers → one ≢ other → IsListed (pairs pointers) (one, other)
listed-pair pointers one other low other_low differ =
    let all = listed-range 0 pointers one (omega arith) (omega arith) in
    listed-flat_map (pairs_of pointers) (range_with_len 0 pointers) all.place one (one, other) all.here
    (listed-map {Y = ℕ × ℕ} (λ other. (one, other)) (others pointers one) other (elim (cases_lt other one) [
      | inl below ↦ listed-first (range_with_len 0 one) (range_with_len (one + 1) (pointers - (one + 1))) other (listed-range 0 one other (omega arith) (omega arith))
      | inr over ↦ listed-second (range_with_len 0 one) (range_with_len (one + 1) (pointers - (one + 1))) other (listed-range (one + 1) (pointers - (one + 1)) other (omega arith) (omega arith))
    ]))

-- each operation over the pointers is listed
pub form_listed : (task : TaskParts) (pointers : ℕ) (form : Form) → IsForm task pointers form → IsListed (operations_of task pointers) form
form_listed task pointers (Act schema args) is =
    let known = slice_get-get_or task.schemas schema _ is.0 in
    let number : 0 + schema ≡ schema = zero-add schema in
    listed-first _ _ _ (listed-first _ _ _ (listed-first _ _ _ (listed-first _ _ _ (listed-first _ _ _ (listed-first _ _ _
    (rw number at (listed-by_entry params_of (λ schema args. Act schema args) pointers 0 task.schemas schema (schema_of task schema) args known (listed-tuple pointers _ args is.1 is.2))))))))
form_listed task pointers (Test pred args) is =
    let known = slice_get-get_or task.predicates pred _ is.0 in
    let number : 0 + pred ≡ pred = zero-add pred in
    listed-first _ _ _ (listed-first _ _ _ (listed-first _ _ _ (listed-first _ _ _ (listed-first _ _ _ (listed-second _ _ _
    (rw number at (listed-by_entry arity_of (λ pred args. Test pred args) pointers 0 task.predicates pred (predicate_of task pred) args known (listed-tuple pointers _ args is.1 is.2))))))))
form_listed task pointers (Inc pointer) is =
    listed-first _ _ _ (listed-first _ _ _ (listed-first _ _ _ (listed-first _ _ _ (listed-second _ _ _
    (listed-map Inc (range_with_len 0 pointers) pointer (listed-range 0 pointers pointer (omega arith) (omega arith)))))))
form_listed task pointers (Dec pointer) is =
    listed-first _ _ _ (listed-first _ _ _ (listed-first _ _ _ (listed-second _ _ _
    (listed-map Dec (range_with_len 0 pointers) pointer (listed-range 0 pointers pointer (omega arith) (omega arith))))))
form_listed task pointers (Clear pointer) is =
    listed-first _ _ _ (listed-first _ _ _ (listed-second _ _ _
    (listed-map Clear (range_with_len 0 pointers) pointer (listed-range 0 pointers pointer (omega arith) (omega arith)))))
form_listed task pointers (Set pointer other) is =
    listed-first _ _ _ (listed-second _ _ _ (listed-map (λ (pair : ℕ × ℕ). Set pair.0 pair.1) (pairs pointers) (pointer, other) (listed-pair pointers pointer other is.0 is.1 is.2)))
form_listed task pointers (Cmp pointer other) is =
    listed-second _ _ _ (listed-map (λ (pair : ℕ × ℕ). Cmp pair.0 pair.1) (pairs pointers) (pointer, other) (listed-pair pointers pointer other is.0 is.1 is.2))

-- the number of an operation is the place where it stands
pub number_is : (task : TaskParts) (pointers n : ℕ) (form : Form) → slice_get (operations_of task pointers) n ≡ Some form → number_in (operations_of task pointers) form ≡ n
number_is task pointers n form here =
    let forms = operations_of task pointers in
    let within = slice_get_within forms n form here in
    position_or_len_is (is_same form) forms n form (omega arith)
    (λ k before. false_from_ne_true (is_same form (get_or forms k form)) (λ yes.
    let same : form ≡ get_or forms k form = same_from_test form (get_or forms k form) yes in
    let there : slice_get forms k ≡ Some form = slice_get-get_or forms k form (omega arith) ∙ ap (λ form. Some form) (sym same) in
    let twice : k ≡ n = operations_once task pointers k n form there here in
    omega arith))
    (λ low. ap (is_same form) (get_or_from_slice_get forms n form form here) ∙ laws-law.refl form)
