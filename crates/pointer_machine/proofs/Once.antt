-- Each operation stands once in the list.
use Rattle.std.proofs.Common.{◌≡◌, ℕ, zero, suc, ◌+◌, ◌-◌, ◌<◌, List, [], ◌∷◌, ◌++◌, map, All, Some, refl, ◌∙◌, inl, inr, ap, sym, arith}
use Rattle.std.specs.Prelude.{slice_get, flat_map}
use Rattle.std.specs.List.{range_with_len}
use Rattle.std.proofs.lemmas.List.Elements.{All-append, All-map, All-weaker}
use Rattle.std.proofs.lemmas.List.FromFn.{get_or-range_with_len, length-range_with_len}
use Rattle.std.proofs.lemmas.Option.{slice_get_within, get_or_from_slice_get}
use Rattle.ground_state.specs.declared.parts.TaskParts.{TaskParts}
use Rattle.ground_state.specs.GroundAtoms.{tuples}
use Rattle.ground_state.proofs.Places.{tuple_once}
use Rattle.ground_state.proofs.Lists.{slice_get-append_cases, slice_get-map_from}
use Rattle.pointer_machine.specs.declared.form.Form.{Form}
use Rattle.pointer_machine.specs.declared.form.Form.TheVariants.{Act, Test, Inc, Dec, Clear, Set, Cmp}
use Rattle.pointer_machine.specs.Operations.{operations_of, by_entry, params_of, arity_of, acts, tests, others, pairs_of, pairs}
use Rattle.pointer_machine.proofs.Forms.{entry_of, All-by_entry, All-range}

-- no item stands at two places
abbrev pub Once : {X : Type 0} → List X → Type 0
Once {X} xs = (m n : ℕ) (x : X) → slice_get xs m ≡ Some x → slice_get xs n ≡ Some x → m ≡ n

-- what holds of all items holds of the one at a place
pub holds_at : {X : Type 0} (P : X → Type 0) (xs : List X) (n : ℕ) (x : X) → All P xs → slice_get xs n ≡ Some x → P x
holds_at P xs n x each here = rw (get_or_from_slice_get xs n x x here) at (each n x (slice_get_within xs n x here))

-- two lists with no item in common
once-append : {X : Type 0} (xs ys : List X) → Once xs → Once ys → ((m n : ℕ) (x : X) → slice_get xs m ≡ Some x → slice_get ys n ≡ Some x → ⊥) → Once (xs ++ ys)
once-append xs ys first second apart m n x here there =
    elim (slice_get-append_cases xs ys m x here) [
      | inl before ↦ elim (slice_get-append_cases xs ys n x there) [
        | inl also ↦ first m n x before also
        | inr (k, place, after) ↦ absurd (apart m k x before after)
      ]
      | inr (k, place, after) ↦ elim (slice_get-append_cases xs ys n x there) [
        | inl before ↦ absurd (apart n k x before after)
        | inr (l, other, also) ↦ (let same : k ≡ l = second k l x after also in omega arith)
      ]
    ]

-- different items made from different ones
once-map : {X Y : Type 0} (f : X → Y) (xs : List X) → ((a b : X) → f a ≡ f b → a ≡ b) → Once xs → Once (map f xs)
once-map f xs one_to_one once m n y here there =
    let a = slice_get-map_from f xs m y here in
    let b = slice_get-map_from f xs n y there in
    let same : a.0 ≡ b.0 = one_to_one a.0 b.0 (a.2 ∙ sym b.2) in
    once m n b.0 (a.1 ∙ ap (λ x. Some x) same) b.1

once-range : (from count : ℕ) → Once (range_with_len from count)
once-range from count m n x here there =
    let numbers = range_with_len from count in
    let low : m < count = omega (arith, slice_get_within numbers m x here, length-range_with_len from count) in
    let high : n < count = omega (arith, slice_get_within numbers n x there, length-range_with_len from count) in
    omega (
      arith,
      sym (get_or_from_slice_get numbers m x 0 here) ∙ get_or-range_with_len from count m 0 low,
      sym (get_or_from_slice_get numbers n x 0 there) ∙ get_or-range_with_len from count n 0 high,
    )

once-tail : {X : Type 0} (x : X) (xs : List X) → Once (x ∷ xs) → Once xs
once-tail x xs once m n y here there = let same : suc m ≡ suc n = once (suc m) (suc n) y here there in omega arith

-- lists of items that tell where they come from, in a row
once-flat_map : {X Y : Type 0} (f : X → List Y) (key : Y → X) (xs : List X) → ((x : X) → All (λ y. key y ≡ x) (f x)) → ((x : X) → Once (f x)) → Once xs → Once (flat_map f xs)
once-flat_map f key [] keyed each once = λ m n y here there. absurd (cc)
once-flat_map {X} {Y} f key (x ∷ xs) keyed each once =
    once-append (f x) (flat_map f xs) (each x) (once-flat_map f key xs keyed each (once-tail x xs once)) (λ m n y here there.
    let first : key y ≡ x = holds_at (λ y. key y ≡ x) (f x) m y (keyed x) here in
    let later = source xs n y there in
    let same : zero ≡ suc later.0 = once zero (suc later.0) x refl (later.1 ∙ ap (λ x. Some x) first) in
    omega arith)
  where
    source : (xs : List X) (n : ℕ) (y : Y) → slice_get (flat_map f xs) n ≡ Some y → (k : ℕ) × (slice_get xs k ≡ Some (key y))
    source [] n y there = absurd (cc)
    source (x ∷ xs) n y there =
        elim (slice_get-append_cases (f x) (flat_map f xs) n y there) [
          | inl own ↦ (zero, ap (λ x. Some x) (sym (holds_at (λ y. key y ≡ x) (f x) n y (keyed x) own)))
          | inr (m, place, later) ↦ (let rest = source xs m y later in (suc rest.0, rest.1))
        ]

-- the operations by entries, where the number of the entry and the pointers can be told from the operation
once-by_entry : {E : Type 0} (width : E → ℕ) (form : ℕ → List ℕ → Form) (pointers number : ℕ) (entries : List E) → ((m n : ℕ) (a b : List ℕ) → form m a ≡ form n b → (m ≡ n) × (a ≡ b)) → Once (by_entry width form pointers number entries)
once-by_entry width form pointers number [] told = λ m n made here there. absurd (cc)
once-by_entry width form pointers number (entry ∷ entries) told =
    let all = tuples pointers (width entry) in
    once-append (map (form number) all) (by_entry width form pointers (number + 1) entries)
    (once-map (form number) all (λ a b same. (told number number a b same).1) (tuple_once pointers (width entry)))
    (once-by_entry width form pointers (number + 1) entries told)
    (λ m n made here there.
    let own = slice_get-map_from (form number) all m made here in
    let later = entry_of width form pointers (number + 1) entries n made there in
    let same : number ≡ number + 1 + later.place = (told number (number + 1 + later.place) own.0 later.args (own.2 ∙ later.is)).0 in
    omega arith)

-- the kind of an operation by its place in the order of kinds
abbrev kind : Form → ℕ
kind (Act schema args) = 0
kind (Test pred args) = 1
kind (Inc pointer) = 2
kind (Dec pointer) = 3
kind (Clear pointer) = 4
kind (Set pointer other) = 5
kind (Cmp pointer other) = 6

-- operations of one kind behind operations of lower kinds
record AreBelow (limit : ℕ) (forms : List Form) : Type 0 where
  once : Once forms
  low : All (λ form. kind form < limit) forms

below-append : (k : ℕ) (xs ys : List Form) → AreBelow k xs → Once ys → All (λ form. kind form ≡ k) ys → AreBelow (suc k) (xs ++ ys)
below-append k xs ys before once own = record {
  once = once-append xs ys before.once once (λ m n form here there.
      let low : kind form < k = holds_at (λ form. kind form < k) xs m form before.low here in
      let same : kind form ≡ k = holds_at (λ form. kind form ≡ k) ys n form own there in
      omega arith);
  low = All-append (λ form. kind form < suc k) xs ys
      (All-weaker (λ form. kind form < k) (λ form. kind form < suc k) (λ form low. omega arith) xs before.low)
      (All-weaker (λ form. kind form ≡ k) (λ form. kind form < suc k) (λ form same. omega arith) ys own);
}

once-pairs : (pointers : ℕ) → Once (pairs pointers)
once-pairs pointers =
    once-flat_map (pairs_of pointers) (λ (pair : ℕ × ℕ). pair.0) (range_with_len 0 pointers)
    (λ one. All-map (λ (pair : ℕ × ℕ). pair.0 ≡ one) (λ other. (one, other)) (others pointers one) (λ k d within. refl))
    (λ one. once-map {Y = ℕ × ℕ} (λ other. (one, other)) (others pointers one) (λ a b same. ap (λ (pair : ℕ × ℕ). pair.1) same) (once-others pointers one))
    (once-range 0 pointers)
  where
    once-others : (pointers one : ℕ) → Once (others pointers one)
    once-others pointers one =
        once-append (range_with_len 0 one) (range_with_len (one + 1) (pointers - (one + 1))) (once-range 0 one) (once-range (one + 1) (pointers - (one + 1))) (λ m n x here there.
        let low : x < one = holds_at (λ x. x < one) (range_with_len 0 one) m x (All-range (λ x. x < one) 0 one (λ k below. omega arith)) here in
        let high : one < x = holds_at (λ x. one < x) (range_with_len (one + 1) (pointers - (one + 1))) n x (All-range (λ x. one < x) (one + 1) (pointers - (one + 1)) (λ k below. omega arith)) there in
        omega arith)

-- no operation has two numbers
pub operations_once : (task : TaskParts) (pointers : ℕ) → Once (operations_of task pointers)
operations_once task pointers =
    let all = range_with_len 0 pointers in
    let moves : (k : ℕ) (form : ℕ → Form) → ((a b : ℕ) → form a ≡ form b → a ≡ b) → ((pointer : ℕ) → kind (form pointer) ≡ k) → (xs : List Form) → AreBelow k xs → AreBelow (suc k) (xs ++ map form all) = λ k form one_to_one own xs before.
    below-append k xs (map form all) before (once-map form all one_to_one (once-range 0 pointers)) (All-map (λ form. kind form ≡ k) form all (λ n d within. own _)) in
    let twos : (k : ℕ) (form : ℕ × ℕ → Form) → ((a b : ℕ × ℕ) → form a ≡ form b → a ≡ b) → ((pair : ℕ × ℕ) → kind (form pair) ≡ k) → (xs : List Form) → AreBelow k xs → AreBelow (suc k) (xs ++ map form (pairs pointers)) = λ k form one_to_one own xs before.
    below-append k xs (map form (pairs pointers)) before (once-map form (pairs pointers) one_to_one (once-pairs pointers)) (All-map (λ form. kind form ≡ k) form (pairs pointers) (λ n d within. own _)) in
    let first : AreBelow 1 (acts task pointers) = record {
      once = once-by_entry params_of (λ schema args. Act schema args) pointers 0 task.schemas (λ m n a b same. (cc, cc));
      low = All-by_entry (λ form. kind form < 1) params_of (λ schema args. Act schema args) pointers task.schemas (λ number entry args known fit. omega arith);
    } in
    let second : AreBelow 2 (acts task pointers ++ tests task pointers) = below-append 1 (acts task pointers) (tests task pointers) first
    (once-by_entry arity_of (λ pred args. Test pred args) pointers 0 task.predicates (λ m n a b same. (cc, cc)))
    (All-by_entry (λ form. kind form ≡ 1) arity_of (λ pred args. Test pred args) pointers task.predicates (λ number entry args known fit. refl)) in
    let third = moves 2 Inc (λ a b same. cc) (λ pointer. refl) _ second in
    let fourth = moves 3 Dec (λ a b same. cc) (λ pointer. refl) _ third in
    let fifth = moves 4 Clear (λ a b same. cc) (λ pointer. refl) _ fourth in
    let sixth = twos 5 (λ pair. Set pair.0 pair.1) (λ a b same. (let one : a.0 ≡ b.0 = cc in let other : a.1 ≡ b.1 = cc in λ i. (one i, other i))) (λ pair. refl) _ fifth in
    let last = twos 6 (λ pair. Cmp pair.0 pair.1) (λ a b same. (let one : a.0 ≡ b.0 = cc in let other : a.1 ≡ b.1 = cc in λ i. (one i, other i))) (λ pair. refl) _ sixth in
    last.once
