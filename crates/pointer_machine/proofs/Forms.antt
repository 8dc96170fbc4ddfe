-- What the operations are made of.
use Rattle.std.proofs.Common.{◌≡◌, ◌≢◌, ℕ, zero, suc, ◌+◌, ◌-◌, ◌<◌, ◌≤◌, List, [], ◌∷◌, length, map, All, Some, refl, ◌∙◌, inl, inr, ap, sym, arith, zero-add, add-zero}
use Rattle.std.specs.Prelude.{slice_get, flat_map}
use Rattle.std.specs.List.{range_with_len}
use Rattle.std.proofs.lemmas.List.Elements.{All-cons, All-nil, All-head, All-tail, All-weaker, All-append, All-map}
use Rattle.std.proofs.lemmas.List.FromFn.{get_or-range_with_len, length-range_with_len}
use Rattle.std.proofs.lemmas.Option.{slice_get_within, slice_get-get_or, get_or_from_slice_get}
use Rattle.ground_state.specs.declared.parts.TaskParts.{TaskParts}
use Rattle.ground_state.specs.GroundAtoms.{tuples}
use Rattle.ground_state.proofs.Places.{tuple_of}
use Rattle.ground_state.proofs.Lists.{slice_get-append_cases, slice_get-map_from}
use Rattle.pointer_machine.specs.declared.form.Form.{Form}
use Rattle.pointer_machine.specs.declared.form.Form.TheVariants.{Act, Test, Inc, Dec, Clear, Set, Cmp}
use Rattle.pointer_machine.specs.Operations.{operations_of, by_entry, params_of, arity_of, acts, tests, others, pairs_of, pairs, IsForm}

-- a list of so many pointers, each in range
pub record IsTuple (pointers params : ℕ) (args : List ℕ) : Type 0 where
  pub count : length args ≡ params
  pub low : All (λ pointer. pointer < pointers) args

pub tuple_is : (pointers params n : ℕ) (args : List ℕ) → slice_get (tuples pointers params) n ≡ Some args → IsTuple pointers params args
tuple_is pointers zero zero args here = let none : [] ≡ args = cc in rw (← none) (record { count = refl; low = All-nil (λ pointer. pointer < pointers) })
tuple_is pointers zero (suc n) args here = absurd (cc)
tuple_is pointers (suc params) n args here =
    let parts = tuple_of pointers params n args here in
    let rest = tuple_is pointers params parts.place parts.rest parts.here in
    rw parts.made (record { count = ap (λ n. suc n) rest.count; low = All-cons (λ pointer. pointer < pointers) parts.first parts.rest parts.within rest.low })

-- an operation by one of some entries, which are numbered from a number on
pub record IsByEntry {E : Type 0} (width : E → ℕ) (form : ℕ → List ℕ → Form) (pointers number : ℕ) (entries : List E) (made : Form) : Type 0 where
  pub place : ℕ
  pub entry : E
  pub args : List ℕ
  pub known : slice_get entries place ≡ Some entry
  pub is : made ≡ form (number + place) args
  pub fit : IsTuple pointers (width entry) args

pub entry_of : {E : Type 0} (width : E → ℕ) (form : ℕ → List ℕ → Form) (pointers number : ℕ) (entries : List E) (n : ℕ) (made : Form) → slice_get (by_entry width form pointers number entries) n ≡ Some made → IsByEntry width form pointers number entries made
entry_of width form pointers number [] n made here = absurd (cc)
entry_of width form pointers number (entry ∷ entries) n made here =
    let all = tuples pointers (width entry) in
    elim (slice_get-append_cases (map (form number) all) (by_entry width form pointers (number + 1) entries) n made here) [
      | inl own ↦ (let found = slice_get-map_from (form number) all n made own in
          record { place = 0; entry = entry; args = found.0; known = refl; is = sym found.2 ∙ ap (λ number. form number found.0) (sym (add-zero number)); fit = tuple_is pointers (width entry) n found.0 found.1 })
      | inr (m, place, later) ↦ (let rest = entry_of width form pointers (number + 1) entries m made later in
          let same : number + 1 + rest.place ≡ number + suc rest.place = omega arith in
          record { place = suc rest.place; entry = rest.entry; args = rest.args; known = rest.known; is = rest.is ∙ ap (λ number. form number rest.args) same; fit = rest.fit })
    ]

-- what holds of each list of pointers with each entry holds of all operations by entries
pub All-by_entry : {E : Type 0} (P : Form → Type 0) (width : E → ℕ) (form : ℕ → List ℕ → Form) (pointers : ℕ) (entries : List E) → ((number : ℕ) (entry : E) (args : List ℕ) → slice_get entries number ≡ Some entry → IsTuple pointers (width entry) args → P (form number args)) → All P (by_entry width form pointers 0 entries)
All-by_entry P width form pointers entries each n d within =
    let found = entry_of width form pointers 0 entries n _ (slice_get-get_or (by_entry width form pointers 0 entries) n d within) in
    rw (found.is, zero-add found.place) (each found.place found.entry found.args found.known found.fit)

-- what holds of each number in a range holds of the range
pub All-range : (P : ℕ → Type 0) (from count : ℕ) → ((n : ℕ) → n < count → P (from + n)) → All P (range_with_len from count)
All-range P from count each n d within =
    let low : n < count = omega (arith, length-range_with_len from count) in
    rw (get_or-range_with_len from count n d low) (each n low)

-- what holds of each part holds of the parts in a row
pub All-flat_map : {X Y : Type 0} (P : Y → Type 0) (f : X → List Y) (xs : List X) → All (λ x. All P (f x)) xs → All P (flat_map f xs)
All-flat_map P f [] each = All-nil P
All-flat_map {X} {Y} P f (x ∷ xs) each =
    let Q : X → Type 0 = λ x. All P (f x) in
    All-append P (f x) (flat_map f xs) (All-head Q x xs each) (All-flat_map P f xs (All-tail Q x xs each))

-- two different pointers among so many
pub record AreTwo (pointers : ℕ) (pair : ℕ × ℕ) : Type 0 where
  pub one : pair.0 < pointers
  pub other : pair.1 < pointers
  pub differ : pair.0 ≢ pair.1

pairs_are : (pointers : ℕ) → All (AreTwo pointers) (pairs pointers)
pairs_are pointers =
    let P = AreTwo pointers in
    All-flat_map P (pairs_of pointers) (range_with_len 0 pointers)
    (All-range (λ one. All P (pairs_of pointers one)) 0 pointers (λ n low.
    let one = 0 + n in
    All-map P (λ other. (one, other)) (others pointers one)
    (All-append (λ other. P (one, other)) (range_with_len 0 one) (range_with_len (one + 1) (pointers - (one + 1)))
    (All-range (λ other. P (one, other)) 0 one (λ k below. record { one = omega arith; other = omega arith; differ = omega arith }))
    (All-range (λ other. P (one, other)) (one + 1) (pointers - (one + 1)) (λ k below. record { one = omega arith; other = omega arith; differ = omega arith })))))

-- each operation is one of the task
pub forms_of : (task : TaskParts) (pointers more : ℕ) → pointers ≤ more → All (IsForm task more) (operations_of task pointers)
forms_of task pointers more few =
    let P = IsForm task more in
    let all = range_with_len 0 pointers in
    let moves : (form : ℕ → Form) → ((pointer : ℕ) → pointer < pointers → P (form pointer)) → All P (map form all) = λ form each. All-map P form all (All-range (λ pointer. P (form pointer)) 0 pointers (λ n low. each (0 + n) (omega arith))) in
    let twos : (form : ℕ × ℕ → Form) → ((pair : ℕ × ℕ) → AreTwo pointers pair → P (form pair)) → All P (map form (pairs pointers)) = λ form each. All-map P form (pairs pointers) (All-weaker (AreTwo pointers) (λ pair. P (form pair)) each (pairs pointers) (pairs_are pointers)) in
    All-append P _ _ (
    All-append P _ _ (
    All-append P _ _ (
    All-append P _ _ (
    All-append P _ _ (
    All-append P _ _ (acts_are task pointers more few) (tests_are task pointers more few)
    ) (moves Inc (λ pointer low. omega arith))
    ) (moves Dec (λ pointer low. omega arith))
    ) (moves Clear (λ pointer low. omega arith))
    ) (twos (λ pair. Set pair.0 pair.1) (λ pair two. (omega (arith, two.one), omega (arith, two.other), two.differ)))
    ) (twos (λ pair. Cmp pair.0 pair.1) (λ pair two. (omega (arith, two.one), omega (arith, two.other), two.differ)))
  where
    low_args : (pointers more : ℕ) (args : List ℕ) → pointers ≤ more → All (λ pointer. pointer < pointers) args → All (λ pointer. pointer < more) args
    low_args pointers more args few = All-weaker (λ pointer. pointer < pointers) (λ pointer. pointer < more) (λ pointer low. omega arith) args

    acts_are : (task : TaskParts) (pointers more : ℕ) → pointers ≤ more → All (IsForm task more) (acts task pointers)
    acts_are task pointers more few = All-by_entry (IsForm task more) params_of (λ schema args. Act schema args) pointers task.schemas (λ number entry args known fit. (
      slice_get_within task.schemas number entry known,
      fit.count ∙ ap params_of (sym (get_or_from_slice_get task.schemas number entry _ known)),
      low_args pointers more args few fit.low,
    ))

    tests_are : (task : TaskParts) (pointers more : ℕ) → pointers ≤ more → All (IsForm task more) (tests task pointers)
    tests_are task pointers more few = All-by_entry (IsForm task more) arity_of (λ pred args. Test pred args) pointers task.predicates (λ number entry args known fit. (
      slice_get_within task.predicates number entry known,
      fit.count ∙ ap arity_of (sym (get_or_from_slice_get task.predicates number entry _ known)),
      low_args pointers more args few fit.low,
    ))

-- so is the operation of a number
pub form_of : (task : TaskParts) (pointers more n : ℕ) (form : Form) → pointers ≤ more → slice_get (operations_of task pointers) n ≡ Some form → IsForm task more form
form_of task pointers more n form few here =
    let within = slice_get_within (operations_of task pointers) n form here in
    rw (get_or_from_slice_get (operations_of task pointers) n form form here) at (forms_of task pointers more few n form within)
