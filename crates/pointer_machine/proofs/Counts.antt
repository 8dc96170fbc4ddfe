-- How many operations there are.
use Rattle.std.proofs.Common.{◌≡◌, ℕ, ◌+◌, ◌-◌, ◌*◌, ◌^◌, ◌<◌, ◌≤◌, List, [], ◌∷◌, ◌++◌, length, map, take, get_or, All, refl, arith, lit<, length-append}
use Rattle.std.specs.List.{range_with_len}
use Rattle.std.specs.Prelude.{flat_map}
use Rattle.std.proofs.Math.Nat.{pow-le-pow_left, pow-le-pow_right}
use Rattle.std.proofs.lemmas.List.{length-map}
use Rattle.std.proofs.lemmas.List.FromFn.{length-range_with_len, get_or-range_with_len}
use Rattle.std.proofs.lemmas.List.Sums.{sum_by-cons, sum_by-take-le, sum_by-le}
use Rattle.std.proofs.lemmas.List.Elements.{All-weaker, All-head, All-tail}
use Rattle.ground_state.specs.declared.parts.TaskParts.{TaskParts}
use Rattle.ground_state.specs.declared.parts.SchemaEntry.{SchemaEntry}
use Rattle.ground_state.specs.declared.parts.PredicateEntry.{PredicateEntry}
use Rattle.ground_state.specs.GroundAtoms.{tuples}
use Rattle.ground_state.specs.Task.{IsTask, IsSchema}
use Rattle.ground_state.proofs.Places.{length-tuples}
use Rattle.pointer_machine.specs.declared.form.Form.{Form}
use Rattle.pointer_machine.specs.declared.form.Form.TheVariants.{Act, Test, Inc, Dec, Clear, Set, Cmp}
use Rattle.pointer_machine.specs.Operations.{operations_of, operation_count, by_entry, count_by_entry, params_of, arity_of, acts, tests, others, pairs_of, pairs}

-- the operations by entries are as many as the count says
length-by_entry : {E : Type 0} (width : E → ℕ) (form : ℕ → List ℕ → Form) (pointers number : ℕ) (entries : List E) → length (by_entry width form pointers number entries) ≡ count_by_entry width pointers entries
length-by_entry width form pointers number [] = refl
length-by_entry width form pointers number (entry ∷ entries) =
    omega (
      arith,
      length-append (map (form number) (tuples pointers (width entry))) (by_entry width form pointers (number + 1) entries),
      length-map (tuples pointers (width entry)) (form number),
      length-tuples pointers (width entry),
      length-by_entry width form pointers (number + 1) entries,
      sum_by-cons (λ entry. pointers ^ width entry) entry entries,
    )

-- parts of one length make a list of so many times that length
length-flat_map_even : {X Y : Type 0} (f : X → List Y) (n : ℕ) (xs : List X) → All (λ x. length (f x) ≡ n) xs → length (flat_map f xs) ≡ length xs * n
length-flat_map_even f n [] each = omega arith
length-flat_map_even {X} f n (x ∷ xs) each =
    let P : X → Type 0 = λ x. length (f x) ≡ n in
    omega (arith, length-append (f x) (flat_map f xs), All-head P x xs each, length-flat_map_even f n xs (All-tail P x xs each))

-- each pointer has one other pointer less than there are
length-pairs_of : (pointers one : ℕ) → one < pointers → length (pairs_of pointers one) ≡ pointers - 1
length-pairs_of pointers one within =
    let pair : ℕ → ℕ × ℕ = λ other. (one, other) in
    omega (
      arith,
      length-map (others pointers one) pair,
      length-append (range_with_len 0 one) (range_with_len (one + 1) (pointers - (one + 1))),
      length-range_with_len 0 one,
      length-range_with_len (one + 1) (pointers - (one + 1)),
    )

length-pairs : (pointers : ℕ) → length (pairs pointers) ≡ pointers * (pointers - 1)
length-pairs pointers =
    let each : All (λ one. length (pairs_of pointers one) ≡ pointers - 1) (range_with_len 0 pointers) = λ k d within.
    let low : k < pointers = omega (arith, length-range_with_len 0 pointers) in
    rw (get_or-range_with_len 0 pointers k d low) (length-pairs_of pointers (0 + k) (omega arith)) in
    rw length-range_with_len at (length-flat_map_even (pairs_of pointers) (pointers - 1) (range_with_len 0 pointers) each)

-- the list of operations is as long as the count says
pub length-operations : (task : TaskParts) (pointers : ℕ) → length (operations_of task pointers) ≡ operation_count task pointers
length-operations task pointers =
    let all = range_with_len 0 pointers in
    let before_incs = acts task pointers ++ tests task pointers in
    let before_decs = before_incs ++ map Inc all in
    let before_clears = before_decs ++ map Dec all in
    let before_sets = before_clears ++ map Clear all in
    let sets = map (λ (pair : ℕ × ℕ). Set pair.0 pair.1) (pairs pointers) in
    omega (
      arith,
      length-append (before_sets ++ sets) (map (λ (pair : ℕ × ℕ). Cmp pair.0 pair.1) (pairs pointers)),
      length-append before_sets sets,
      length-append before_clears (map Clear all),
      length-append before_decs (map Dec all),
      length-append before_incs (map Inc all),
      length-append (acts task pointers) (tests task pointers),
      length-by_entry params_of (λ schema args. Act schema args) pointers 0 task.schemas,
      length-by_entry arity_of (λ pred args. Test pred args) pointers 0 task.predicates,
      length-map all Inc,
      length-map all Dec,
      length-map all Clear,
      length-map (pairs pointers) (λ (pair : ℕ × ℕ). Set pair.0 pair.1),
      length-map (pairs pointers) (λ (pair : ℕ × ℕ). Cmp pair.0 pair.1),
      length-range_with_len 0 pointers,
      length-pairs pointers,
    )

-- within the limits there are at most 4096 lists of pointers for an entry
pub tuples_few : (pointers width : ℕ) → pointers ≤ 4 → width ≤ 6 → pointers ^ width ≤ 4096
tuples_few pointers width few narrow =
    let base : pointers ^ width ≤ 4 ^ width = pow-le-pow_left few width in
    let top : 4 ^ width ≤ 4 ^ 6 = pow-le-pow_right {n = 4} (lit< tt) narrow in
    omega arith

-- the entries are few, and each takes at most six pointers
pub record AreNarrow {E : Type 0} (width : E → ℕ) (entries : List E) : Type 0 where
  pub few : length entries < 2 ^ 32
  pub each : All (λ entry. width entry ≤ 6) entries

-- so are the schemas and the predicates of a task
pub schemas_narrow : (task : TaskParts) (entries : List SchemaEntry) → IsTask task → entries ≡ task.schemas → AreNarrow params_of entries
schemas_narrow task entries fit same = rw same (record {
  few = fit.schemas.few;
  each = All-weaker (IsSchema task) (λ (entry : SchemaEntry). length entry.params ≤ 6) (λ entry schema. schema.few) task.schemas fit.schemas.each;
})

pub predicates_narrow : (task : TaskParts) (entries : List PredicateEntry) → IsTask task → entries ≡ task.predicates → AreNarrow arity_of entries
predicates_narrow task entries fit same = rw same (record {
  few = fit.predicates.few;
  each = All-weaker (λ (entry : PredicateEntry). entry.arity ≤ 4) (λ (entry : PredicateEntry). entry.arity ≤ 6) (λ entry narrow. omega arith) task.predicates fit.predicates.arities;
})

-- the count for the entries before one stays far below the last value of 64 bits
pub count_fits : {E : Type 0} (width : E → ℕ) (pointers i : ℕ) (entries : List E) → AreNarrow width entries → pointers ≤ 4 → count_by_entry width pointers (take i entries) < 2 ^ 44
count_fits {E} width pointers i entries narrow few =
    let own : E → ℕ = λ entry. pointers ^ width entry in
    let each = All-weaker (λ entry. width entry ≤ 6) (λ entry. own entry ≤ 4096) (λ entry short. tuples_few pointers (width entry) few short) entries narrow.each in
    omega (arith, narrow.few, sum_by-take-le own entries i, sum_by-le own 4096 entries each)

-- so does the count with its own
pub record IsFew {E : Type 0} (width : E → ℕ) (pointers i : ℕ) (entries : List E) (entry : E) : Type 0 where
  pub before : count_by_entry width pointers (take i entries) < 2 ^ 44
  pub own : pointers ^ width entry ≤ 4096

pub few_so_far : {E : Type 0} (width : E → ℕ) (pointers i : ℕ) (entries : List E) (entry : E) → AreNarrow width entries → pointers ≤ 4 → i < length entries → entry ≡ get_or entries i entry → IsFew width pointers i entries entry
few_so_far {E} width pointers i entries entry narrow few within here =
    let short : width entry ≤ 6 = rw (← here) at (narrow.each i entry within) in
    record { before = count_fits width pointers i entries narrow few; own = tuples_few pointers (width entry) few short }
