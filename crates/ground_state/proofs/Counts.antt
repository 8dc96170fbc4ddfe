-- How many ground atoms there are.
use Rattle.std.proofs.Common.{◌≡◌, ℕ, ◌+◌, ◌^◌, ◌<◌, ◌≤◌, List, length, take, get_or, map, All, ap, sym, refl, Some, arith, lit<}
use Rattle.std.proofs.Math.Nat.{pow-le-pow_left, pow-le-pow_right}
use Rattle.std.proofs.lemmas.List.{map_more, length-map, take-map}
use Rattle.std.proofs.lemmas.List.Sums.{sum_by-take-le, sum_by_more, sum_by_push, sum_by-le}
use Rattle.std.proofs.lemmas.Option.{slice_get_within, slice_get_read, get_or_from_slice_get}
use Rattle.std.specs.List.{slice_get}
use Rattle.std.proofs.lemmas.List.Elements.{All-map, All-weaker}
use Rattle.ground_state.specs.declared.parts.PredicateEntry.{PredicateEntry}
use Rattle.ground_state.specs.GroundAtoms.{tuples, atom_count}
use Rattle.ground_state.proofs.Places.{length-tuples}

-- the atoms of the predicates before one, and its own, are no more than all
pub atoms_upto : (objects i : ℕ) (predicates : List PredicateEntry) (predicate : PredicateEntry) → i < length predicates → predicate ≡ get_or predicates i predicate → atom_count objects (map (λ (entry : PredicateEntry). entry.arity) (take i predicates)) + objects ^ predicate.arity ≤ atom_count objects (map (λ (entry : PredicateEntry). entry.arity) predicates)
atoms_upto objects i predicates predicate within here =
    let arity = λ (entry : PredicateEntry). entry.arity in
    let power = λ (arity : ℕ). objects ^ arity in
    let more = map_more arity predicates i predicate within in
    let front = sum_by-take-le power (map arity predicates) (i + 1) in
    let cut = take-map arity (i + 1) predicates in
    let own : objects ^ (get_or predicates i predicate).arity ≡ objects ^ predicate.arity = ap (λ (entry : PredicateEntry). objects ^ entry.arity) (sym here) in
    omega (arith, own, sum_by_push power (map arity (take i predicates)) (get_or predicates i predicate).arity, ap (atom_count objects) more, ap (atom_count objects) cut, front)

-- within the limits a predicate has at most 2 ^ 32 atoms
atoms_of_one : (objects arity : ℕ) → objects ≤ 256 → arity ≤ 4 → objects ^ arity ≤ 2 ^ 32
atoms_of_one objects arity few short =
    let base : objects ^ arity ≤ 256 ^ arity = pow-le-pow_left few arity in
    let top : 256 ^ arity ≤ 256 ^ 4 = pow-le-pow_right {n = 256} (lit< tt) short in
    omega arith

-- within the limits the count fits 64 bits
pub atoms_fit : (objects : ℕ) (predicates : List PredicateEntry) → objects ≤ 256 → length predicates < 2 ^ 32 → All (λ (entry : PredicateEntry). entry.arity ≤ 4) predicates → atom_count objects (map (λ (entry : PredicateEntry). entry.arity) predicates) < 2 ^ 64
atoms_fit objects predicates few short arities =
    let arity = λ (entry : PredicateEntry). entry.arity in
    let P : ℕ → Type 0 = λ arity. objects ^ arity ≤ 2 ^ 32 in
    let each : All P (map arity predicates) = All-map P arity predicates (All-weaker (λ (entry : PredicateEntry). entry.arity ≤ 4) (λ (entry : PredicateEntry). P entry.arity) (λ entry h. atoms_of_one objects entry.arity few h) predicates arities) in
    omega (arith, sum_by-le (λ arity. objects ^ arity) (2 ^ 32) (map arity predicates) each, length-map predicates arity)

-- the atoms of the predicates before one, and its own, are no more than all
pub atoms_before : (objects k arity : ℕ) (arities : List ℕ) → slice_get arities k ≡ Some arity → atom_count objects (take k arities) + objects ^ arity ≤ atom_count objects arities
atoms_before objects k arity arities known =
    let power = λ (arity : ℕ). objects ^ arity in
    let own : objects ^ get_or arities k 0 ≡ objects ^ arity = ap power (get_or_from_slice_get arities k arity 0 known) in
    omega (arith, own, sum_by_more power arities k 0 (slice_get_within arities k arity known), sum_by-take-le power arities (k + 1))

-- the number of a ground atom is below the count
pub atom_below : (objects k arity place : ℕ) (arities args : List ℕ) → slice_get arities k ≡ Some arity → slice_get (tuples objects arity) place ≡ Some args → atom_count objects (take k arities) + place < atom_count objects arities
atom_below objects k arity place arities args known here =
    let below : place < objects ^ arity = rw length-tuples at (slice_get_within (tuples objects arity) place args here) in
    omega (arith, below, atoms_before objects k arity arities known)

-- an item that was read
pub item_read : (xs : List ℕ) (i x : ℕ) → i < length xs → x ≡ get_or xs i x → x ≡ get_or xs i 0
item_read xs i x within here = sym (get_or_from_slice_get xs i x 0 (slice_get_read xs (length xs) i x refl within here))
