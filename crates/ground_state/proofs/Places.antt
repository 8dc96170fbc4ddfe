-- Where tuples and ground atoms stand.
use Rattle.std.proofs.Common.{◌≡◌, ℕ, zero, suc, ◌+◌, ◌*◌, ◌^◌, ◌<◌, ◌≤◌, List, [], ◌∷◌, ◌++◌, length, take, refl, ◌∙◌, inl, inr, ap, sym, arith, map, Some, length-append, add-zero, add-one, get_or, All}
use Rattle.std.proofs.Math.Nat.{pow-zero, pow-suc, pow-le-pow_right, pow-succ'}
use Rattle.std.specs.List.{slice_get, range_with_len, flat_map}
use Rattle.std.proofs.lemmas.Option.{slice_get_within}
use Rattle.std.proofs.lemmas.List.{length-map, take_more, map_more, get_or-map}
use Rattle.std.proofs.lemmas.Nat.{mul-add-lt}
use Rattle.std.proofs.lemmas.List.Sums.{sum_by-cons}
use Rattle.ground_state.specs.declared.parts.Fact.{Fact}
use Rattle.ground_state.specs.GroundAtoms.{tuples, atoms_from, ground_atoms, atom_count}
use Rattle.ground_state.proofs.Lists.{slice_get-append_first, slice_get-append_second, slice_get-append_cases, slice_get-map_from, slice_get-map_at}

-- the tuples that begin with one of some objects in a row
abbrev pub blocks : List (List ℕ) → ℕ → ℕ → List (List ℕ)
blocks rests from count = flat_map (λ first. map (λ rest. first ∷ rest) rests) (range_with_len from count)

-- a tuple stands in the block of its first object, at the place of its rest
pub block_place : (rests : List (List ℕ)) (from count first n : ℕ) (rest : List ℕ) → first < count → slice_get rests n ≡ Some rest → slice_get (blocks rests from count) (first * length rests + n) ≡ Some ((from + first) ∷ rest)
block_place rests from zero first n rest within here = absurd (omega arith)
block_place rests from (suc count) zero n rest within here =
    let place : zero * length rests + n ≡ n = omega arith in
    let number : from + 0 ≡ from = omega arith in
    rw (place, number) (slice_get-append_first _ (blocks rests (from + 1) count) n _ (slice_get-map_at (λ rest. from ∷ rest) rests n rest here))
block_place rests from (suc count) (suc first) n rest within here =
    let block = map (λ (rest : List ℕ). from ∷ rest) rests in
    let place : suc first * length rests + n ≡ length block + (first * length rests + n) = omega (arith, length-map rests (λ (rest : List ℕ). from ∷ rest)) in
    let number : from + suc first ≡ from + 1 + first = omega arith in
    rw (place, number) (slice_get-append_second block (blocks rests (from + 1) count) (first * length rests + n) ∙ block_place rests (from + 1) count first n rest (omega arith) here)

-- what the tuple at a place of the blocks is made of
pub record IsBlock (rests : List (List ℕ)) (from count n : ℕ) (tuple : List ℕ) : Type 0 where
  pub first : ℕ
  pub place : ℕ
  pub rest : List ℕ
  pub within : first < count
  pub number : n ≡ first * length rests + place
  pub here : slice_get rests place ≡ Some rest
  pub made : tuple ≡ (from + first) ∷ rest

pub block_of : (rests : List (List ℕ)) (from count n : ℕ) (tuple : List ℕ) → slice_get (blocks rests from count) n ≡ Some tuple → IsBlock rests from count n tuple
block_of rests from zero n tuple here = absurd (cc)
block_of rests from (suc count) n tuple here =
    let block = map (λ (rest : List ℕ). from ∷ rest) rests in
    let long : length block ≡ length rests = length-map rests (λ (rest : List ℕ). from ∷ rest) in
    elim (slice_get-append_cases block (blocks rests (from + 1) count) n tuple here) [
      | inl front ↦ (let found = slice_get-map_from (λ (rest : List ℕ). from ∷ rest) rests n tuple front in
          record { first = 0; place = n; rest = found.0; within = omega arith; number = omega arith; here = found.1; made = rw add-zero (sym found.2) })
      | inr (m, place, back) ↦ (let inner = block_of rests (from + 1) count m tuple back in
          let number : from + 1 + inner.first ≡ from + suc inner.first = omega arith in
          record { first = suc inner.first; place = inner.place; rest = inner.rest; within = omega arith; number = omega (arith, long, place, inner.number); here = inner.here; made = inner.made ∙ ap (λ x. x ∷ inner.rest) number })
    ]

length-blocks : (rests : List (List ℕ)) (from count : ℕ) → length (blocks rests from count) ≡ count * length rests
length-blocks rests from zero = omega arith
length-blocks rests from (suc count) =
    let block = map (λ (rest : List ℕ). from ∷ rest) rests in
    omega (arith, length-append block (blocks rests (from + 1) count), length-map rests (λ (rest : List ℕ). from ∷ rest), length-blocks rests (from + 1) count)

-- there are as many tuples as the power says
pub length-tuples : (objects arity : ℕ) → length (tuples objects arity) ≡ objects ^ arity
length-tuples objects zero = sym (pow-zero objects)
length-tuples objects (suc arity) = length-blocks (tuples objects arity) 0 objects ∙ ap (λ n. objects * n) (length-tuples objects arity) ∙ sym (pow-succ' objects arity)

-- a tuple that begins with an object stands behind the tuples that begin with a lower one
pub tuple_place : (objects arity first n : ℕ) (rest : List ℕ) → first < objects → slice_get (tuples objects arity) n ≡ Some rest → slice_get (tuples objects (suc arity)) (first * objects ^ arity + n) ≡ Some (first ∷ rest)
tuple_place objects arity first n rest within here =
    let number : 0 + first ≡ first = omega arith in
    rw (← length-tuples objects arity) (block_place (tuples objects arity) 0 objects first n rest within here ∙ ap (λ x. Some (x ∷ rest)) number)

-- what a tuple at a place is made of
pub record IsTuple (objects arity n : ℕ) (tuple : List ℕ) : Type 0 where
  pub first : ℕ
  pub place : ℕ
  pub rest : List ℕ
  pub within : first < objects
  pub number : n ≡ first * objects ^ arity + place
  pub here : slice_get (tuples objects arity) place ≡ Some rest
  pub made : tuple ≡ first ∷ rest

pub tuple_of : (objects arity n : ℕ) (tuple : List ℕ) → slice_get (tuples objects (suc arity)) n ≡ Some tuple → IsTuple objects arity n tuple
tuple_of objects arity n tuple here =
    let block = block_of (tuples objects arity) 0 objects n tuple here in
    let number : 0 + block.first ≡ block.first = omega arith in
    record { first = block.first; place = block.place; rest = block.rest; within = block.within; number = rw length-tuples at block.number; here = block.here; made = block.made ∙ ap (λ x. x ∷ block.rest) number }

-- the lists of no objects: one
tuple_none : (objects n : ℕ) (tuple : List ℕ) → slice_get (tuples objects zero) n ≡ Some tuple → (n ≡ 0) × (tuple ≡ [])
tuple_none objects zero tuple here = (refl, cc)
tuple_none objects (suc n) tuple here = absurd (cc)

-- one more object at the end is one more digit
pub tuple_push : (objects arity n : ℕ) (tuple : List ℕ) (object : ℕ) → object < objects → slice_get (tuples objects arity) n ≡ Some tuple → slice_get (tuples objects (suc arity)) (n * objects + object) ≡ Some (tuple ++ object ∷ [])
tuple_push objects zero n tuple object within here =
    let none = tuple_none objects n tuple here in
    let place : n * objects + object ≡ object * objects ^ 0 + 0 = omega (arith, ap (λ x. x * objects) none.0, ap (λ x. object * x) (pow-zero objects)) in
    rw (place, none.1) (tuple_place objects zero object 0 [] within refl)
tuple_push objects (suc arity) n tuple object within here =
    let parts = tuple_of objects arity n tuple here in
    let longer = tuple_place objects (suc arity) parts.first (parts.place * objects + object) (parts.rest ++ object ∷ []) parts.within (tuple_push objects arity parts.place parts.rest object within parts.here) in
    let place : n * objects + object ≡ parts.first * objects ^ suc arity + (parts.place * objects + object) = omega (arith, ap (λ x. x * objects) parts.number, ap (λ x. parts.first * x) (pow-suc objects arity)) in
    ap (slice_get (tuples objects (suc (suc arity)))) place ∙ longer ∙ ap (λ x. Some (x ++ object ∷ [])) (sym parts.made)

-- no two places have the same tuple
pub tuple_once : (objects arity m n : ℕ) (tuple : List ℕ) → slice_get (tuples objects arity) m ≡ Some tuple → slice_get (tuples objects arity) n ≡ Some tuple → m ≡ n
tuple_once objects zero m n tuple one other =
    let first = tuple_none objects m tuple one in
    let second = tuple_none objects n tuple other in
    omega arith
tuple_once objects (suc arity) m n tuple one other =
    let first = tuple_of objects arity m tuple one in
    let second = tuple_of objects arity n tuple other in
    let head : first.first ≡ second.first = cc in
    let tail : first.rest ≡ second.rest = cc in
    let rest : first.place ≡ second.place = tuple_once objects arity first.place second.place first.rest first.here (rw tail second.here) in
    first.number ∙ ap (λ x. x * objects ^ arity + first.place) head ∙ ap (λ x. second.first * objects ^ arity + x) rest ∙ sym second.number

abbrev atom : ℕ → List ℕ → Fact
atom pred args = record { pred = pred; args = args }

-- a ground atom stands among those of its predicate, at the place of its objects
pub atom_place : (objects pred : ℕ) (arities : List ℕ) (k arity n : ℕ) (args : List ℕ) → slice_get arities k ≡ Some arity → slice_get (tuples objects arity) n ≡ Some args → slice_get (atoms_from objects pred arities) (atom_count objects (take k arities) + n) ≡ Some (record { pred = pred + k; args = args })
atom_place objects pred [] k arity n args known here = absurd (cc)
atom_place objects pred (first ∷ arities) zero arity n args known here =
    let same : first ≡ arity = cc in
    let place : 0 + n ≡ n = omega arith in
    let number : pred + 0 ≡ pred = omega arith in
    rw (place, number) (slice_get-append_first _ (atoms_from objects (pred + 1) arities) n _ (slice_get-map_at (atom pred) (tuples objects first) n args (rw same here)))
atom_place objects pred (first ∷ arities) (suc k) arity n args known here =
    let block = map (atom pred) (tuples objects first) in
    let long : length block ≡ objects ^ first = length-map (tuples objects first) (atom pred) ∙ length-tuples objects first in
    let place : atom_count objects (first ∷ take k arities) + n ≡ length block + (atom_count objects (take k arities) + n) = omega (arith, sum_by-cons (λ arity. objects ^ arity) first (take k arities)) in
    let number : pred + suc k ≡ pred + 1 + k = omega arith in
    rw (place, number) (slice_get-append_second block (atoms_from objects (pred + 1) arities) _ ∙ atom_place objects (pred + 1) arities k arity n args known here)

-- what the ground atom at a place is made of
pub record IsAtomAt (objects pred : ℕ) (arities : List ℕ) (n : ℕ) (fact : Fact) : Type 0 where
  pub before : ℕ
  pub arity : ℕ
  pub place : ℕ
  pub known : slice_get arities before ≡ Some arity
  pub number : n ≡ atom_count objects (take before arities) + place
  pub here : slice_get (tuples objects arity) place ≡ Some fact.args
  pub named : fact.pred ≡ pred + before

pub atom_of : (objects pred : ℕ) (arities : List ℕ) (n : ℕ) (fact : Fact) → slice_get (atoms_from objects pred arities) n ≡ Some fact → IsAtomAt objects pred arities n fact
atom_of objects pred [] n fact here = absurd (cc)
atom_of objects pred (first ∷ arities) n fact here =
    let block = map (atom pred) (tuples objects first) in
    let long : length block ≡ objects ^ first = length-map (tuples objects first) (atom pred) ∙ length-tuples objects first in
    elim (slice_get-append_cases block (atoms_from objects (pred + 1) arities) n fact here) [
      | inl front ↦ (let found = slice_get-map_from (atom pred) (tuples objects first) n fact front in
          record { before = 0; arity = first; place = n; known = refl; number = omega arith; here = found.1 ∙ ap (λ (x : Fact). Some x.args) found.2; named = rw add-zero (sym (ap (λ (x : Fact). x.pred) found.2)) })
      | inr (m, place, back) ↦ (let inner = atom_of objects (pred + 1) arities m fact back in
          let step = sum_by-cons (λ arity. objects ^ arity) first (take inner.before arities) in
          record { before = suc inner.before; arity = inner.arity; place = inner.place; known = inner.known; number = omega (arith, long, place, inner.number, step); here = inner.here; named = omega (arith, inner.named) })
    ]

-- no two places have the same ground atom
pub atom_once : (objects : ℕ) (arities : List ℕ) (m n : ℕ) (fact : Fact) → slice_get (ground_atoms objects arities) m ≡ Some fact → slice_get (ground_atoms objects arities) n ≡ Some fact → m ≡ n
atom_once objects arities m n fact one other =
    let first = atom_of objects 0 arities m fact one in
    let second = atom_of objects 0 arities n fact other in
    let before : first.before ≡ second.before = omega (arith, first.named, second.named) in
    let arity : first.arity ≡ second.arity = cc in
    let place : first.place ≡ second.place = tuple_once objects first.arity first.place second.place fact.args first.here (rw arity second.here) in
    first.number ∙ ap (λ x. atom_count objects (take x arities) + first.place) before ∙ ap (λ x. atom_count objects (take second.before arities) + x) place ∙ sym second.number

length-atoms_from : (objects pred : ℕ) (arities : List ℕ) → length (atoms_from objects pred arities) ≡ atom_count objects arities
length-atoms_from objects pred [] = refl
length-atoms_from objects pred (arity ∷ arities) =
    omega (arith, length-append (map (atom pred) (tuples objects arity)) (atoms_from objects (pred + 1) arities), length-map (tuples objects arity) (atom pred), length-tuples objects arity, length-atoms_from objects (pred + 1) arities, sum_by-cons (λ arity. objects ^ arity) arity arities)

-- there are as many ground atoms as the count says
pub length-ground_atoms : (objects : ℕ) (arities : List ℕ) → length (ground_atoms objects arities) ≡ atom_count objects arities
length-ground_atoms objects arities = length-atoms_from objects 0 arities

-- an object that is read from an item of a list
pub low_at : {X : Type 0} (f : X → ℕ) (objects i : ℕ) (xs : List X) (d : X) → All (λ object. object < objects) (map f xs) → i < length xs → f (get_or xs i d) < objects
low_at f objects i xs d low within =
    rw (get_or-map f xs i d 0 within) at (low i 0 (rw (length-map xs f) within))

-- the next step of reading some objects as the digits of a number
pub tuple_more : (objects i place object : ℕ) (args : List ℕ) → i < length args → object ≡ get_or args i 0 → object < objects → slice_get (tuples objects i) place ≡ Some (take i args) → slice_get (tuples objects (i + 1)) (place * objects + object) ≡ Some (take (i + 1) args)
tuple_more objects i place object args within next low here =
    let longer = tuple_push objects i place (take i args) object low here in
    let more = rw add-one at (take_more args i 0 within) in
    rw (add-one, more, ← next) longer

-- the same step for objects that are read from other items
pub tuple_more_at : {X : Type 0} (f : X → ℕ) (objects i place object : ℕ) (xs : List X) (d : X) → i < length xs → object ≡ f (get_or xs i d) → object < objects → slice_get (tuples objects i) place ≡ Some (map f (take i xs)) → slice_get (tuples objects (i + 1)) (place * objects + object) ≡ Some (map f (take (i + 1) xs))
tuple_more_at f objects i place object xs d within next low here =
    let longer = tuple_push objects i place (map f (take i xs)) object low here in
    rw (map_more f xs i d within, ← next, add-one) longer

-- that number stays small where there are few tuples
pub tuple_fits : (objects i place object limit arity : ℕ) (front : List ℕ) → i < arity → objects ^ arity ≤ limit → object < objects → slice_get (tuples objects i) place ≡ Some front → place * objects + object < limit
tuple_fits objects i place object limit arity front within few low here =
    let below : place < objects ^ i = rw length-tuples at (slice_get_within (tuples objects i) place front here) in
    let some : 0 < objects = omega arith in
    let longer : objects ^ suc i ≤ objects ^ arity = pow-le-pow_right some (omega arith) in
    omega (arith, mul-add-lt place objects object (objects ^ i) below low, pow-succ' objects i)

-- the place of a ground atom among all of them
pub ground_atom_place : (objects pred first n : ℕ) (arities args : List ℕ) → slice_get arities pred ≡ Some (length args) → first ≡ atom_count objects (take pred arities) → slice_get (tuples objects (length args)) n ≡ Some args → slice_get (ground_atoms objects arities) (first + n) ≡ Some (record { pred = pred; args = args })
ground_atom_place objects pred first n arities args known start here =
    let number : 0 + pred ≡ pred = omega arith in
    rw start (atom_place objects 0 arities pred (length args) n args known here ∙ ap (λ x. Some (atom x args)) number)
