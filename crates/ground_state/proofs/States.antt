-- States: which atoms are true, and how setting one place adds one atom.
use Rattle.std.proofs.Common.{◌≡◌, ◌↔◌, ℕ, zero, suc, Bool, true, false, ◌||◌, List, [], ◌∷◌, ◌++◌, length, get_or, set, replicate, refl, ◌∙◌, ap, sym, arith, map, Some, Contains, IsTrue}
use Rattle.std.specs.List.{slice_get, list_any, items_where_true}
use Rattle.std.specs.Cmp.Lexicographic.{same_text}
use Rattle.std.proofs.lemmas.Bool.{and_parts, and_from, eqb-true, eq-eqb, false_from_ne_true}
use Rattle.std.proofs.lemmas.Cmp.{nat_list_eq_equiv}
use Rattle.std.proofs.lemmas.Option.{slice_get_within, slice_get_read, get_or_from_slice_get}
use Rattle.std.proofs.lemmas.List.Folds.{Any-from_list_any, list_any_at, list_any-append}
use Rattle.std.proofs.lemmas.List.{length-map}
use Rattle.std.proofs.lemmas.List.Elements.{Contains-push}
use Rattle.ground_state.specs.declared.parts.Fact.{Fact}
use Rattle.ground_state.specs.State.{State, is_same, those_of, true_atoms}
use Rattle.ground_state.specs.GroundAtoms.{ground_atoms, atom_count}
use Rattle.ground_state.proofs.Places.{atom_once, length-ground_atoms}

-- ---- equal atoms
pub same_from_test : (one other : Fact) → is_same one other ≡ true → one ≡ other
same_from_test one other h =
    let parts = and_parts _ _ h in
    let preds = eqb-true one.pred other.pred parts.0 in
    let args = same_text one.args other.args (sym parts.1) in
    λ i. record { pred = preds i; args = args i }

pub test_from_same : (one : Fact) → is_same one one ≡ true
test_from_same one = and_from _ _ (eq-eqb one.pred one.pred refl) (nat_list_eq_equiv.refl one.args)

-- ---- items by their places
pub Contains-from_place : {X : Type 0} (xs : List X) (n : ℕ) (x : X) → slice_get xs n ≡ Some x → Contains xs x
Contains-from_place xs n x here = (n, slice_get_within xs n x here, get_or_from_slice_get xs n x x here)

pub place_from_Contains : {X : Type 0} (xs : List X) (x : X) → Contains xs x → (n : ℕ) × (slice_get xs n ≡ Some x)
place_from_Contains xs x among = (among.0, slice_get_read xs (length xs) among.0 x refl among.1 (sym among.2))

-- ---- whether an atom is listed
abbrev pub is_among : List Fact → Fact → Bool
is_among facts atom = list_any (is_same atom) facts

pub Contains-from_test : (facts : List Fact) (atom : Fact) → is_among facts atom ≡ true → Contains facts atom
Contains-from_test facts atom h =
    let found = Any-from_list_any (is_same atom) facts h in
    let same = same_from_test atom found.1 found.4 in
    rw same (found.0, found.2, found.3)

pub test_from_Contains : (facts : List Fact) (atom : Fact) → Contains facts atom → is_among facts atom ≡ true
test_from_Contains facts atom among =
    let same : is_same atom (get_or facts among.0 atom) ≡ true = rw among.2 (test_from_same atom) in
    list_any_at (is_same atom) facts among.0 atom among.1 same

-- one more fact changes nothing for other atoms
is_among-push : (facts : List Fact) (fact atom : Fact) → (atom ≡ fact → ⊥) → is_among facts atom ≡ is_among (facts ++ fact ∷ []) atom
is_among-push facts fact atom other =
    let no : is_same atom fact ≡ false = false_from_ne_true _ (λ h. other (same_from_test atom fact h)) in
    sym (list_any-append (is_same atom) facts (fact ∷ []) ∙ rw no (or-false (is_among facts atom)))
  where
    or-false : (b : Bool) → (b || false) ≡ b
    or-false true = refl
    or-false false = refl

-- ---- sets of listed atoms
pub none_listed : (atoms : List Fact) → map (is_among []) atoms ≡ replicate (length atoms) false
none_listed [] = refl
none_listed (atom ∷ atoms) = ap (λ x. false ∷ x) (none_listed atoms)

others_stay : (facts : List Fact) (fact : Fact) (atoms : List Fact) → ((m : ℕ) → slice_get atoms m ≡ Some fact → ⊥) → map (is_among facts) atoms ≡ map (is_among (facts ++ fact ∷ [])) atoms
others_stay facts fact [] nowhere = refl
others_stay facts fact (atom ∷ atoms) nowhere =
    let head = is_among-push facts fact atom (λ same. nowhere zero (ap (λ x. Some x) same)) in
    let tail = others_stay facts fact atoms (λ m here. nowhere (suc m) here) in
    λ i. head i ∷ tail i

-- to make the place of a fact true adds the fact
pub set_adds : (facts : List Fact) (fact : Fact) (atoms : List Fact) (n : ℕ) → slice_get atoms n ≡ Some fact → ((m : ℕ) → slice_get atoms m ≡ Some fact → m ≡ n) → set (map (is_among facts) atoms) n true ≡ map (is_among (facts ++ fact ∷ [])) atoms
set_adds facts fact [] n here once = absurd (cc)
set_adds facts fact (atom ∷ atoms) zero here once =
    let same : atom ≡ fact = cc in
    let head : true ≡ is_among (facts ++ fact ∷ []) atom = sym (test_from_Contains (facts ++ fact ∷ []) atom (rw same (Contains-push facts fact))) in
    let tail = others_stay facts fact atoms (λ m there. absurd (let no : suc m ≡ zero = once (suc m) there in omega arith)) in
    λ i. head i ∷ tail i
set_adds facts fact (atom ∷ atoms) (suc n) here once =
    let head = is_among-push facts fact atom (λ same. absurd (let no : zero ≡ suc n = once zero (ap (λ x. Some x) same) in omega arith)) in
    let tail = set_adds facts fact atoms n here (λ m there. let next : suc m ≡ suc n = once (suc m) there in omega arith) in
    λ i. head i ∷ tail i

-- ---- the atoms at true places
picked_from : (state : State) (atoms : List Fact) (k : ℕ) (fact : Fact) → slice_get (items_where_true state atoms) k ≡ Some fact → (n : ℕ) × (slice_get state n ≡ Some true) × (slice_get atoms n ≡ Some fact)
picked_from [] atoms k fact here = absurd (cc)
picked_from (b ∷ state) [] k fact here = absurd (cc)
picked_from (true ∷ state) (atom ∷ atoms) zero fact here = (zero, refl, here)
picked_from (true ∷ state) (atom ∷ atoms) (suc k) fact here = let rest = picked_from state atoms k fact here in (suc rest.0, rest.1, rest.2)
picked_from (false ∷ state) (atom ∷ atoms) k fact here = let rest = picked_from state atoms k fact here in (suc rest.0, rest.1, rest.2)

picked_at : (state : State) (atoms : List Fact) (n : ℕ) (fact : Fact) → slice_get state n ≡ Some true → slice_get atoms n ≡ Some fact → (k : ℕ) × (slice_get (items_where_true state atoms) k ≡ Some fact)
picked_at [] atoms n fact on here = absurd (cc)
picked_at (b ∷ state) [] n fact on here = absurd (cc)
picked_at (true ∷ state) (atom ∷ atoms) zero fact on here = (zero, here)
picked_at (false ∷ state) (atom ∷ atoms) zero fact on here = absurd (cc)
picked_at (true ∷ state) (atom ∷ atoms) (suc n) fact on here = let rest = picked_at state atoms n fact on here in (suc rest.0, rest.1)
picked_at (false ∷ state) (atom ∷ atoms) (suc n) fact on here = picked_at state atoms n fact on here

-- an atom that is true in a state stands at a true place, and one at a true place is true
pub place_of_held : (objects : ℕ) (arities : List ℕ) (state : State) (fact : Fact) → Contains (true_atoms objects arities state) fact → (n : ℕ) × (slice_get state n ≡ Some true) × (slice_get (ground_atoms objects arities) n ≡ Some fact)
place_of_held objects arities state fact held =
    let picked = place_from_Contains (true_atoms objects arities state) fact held in
    picked_from state (ground_atoms objects arities) picked.0 fact picked.1

pub held_at_place : (objects : ℕ) (arities : List ℕ) (state : State) (fact : Fact) (n : ℕ) → slice_get state n ≡ Some true → slice_get (ground_atoms objects arities) n ≡ Some fact → Contains (true_atoms objects arities state) fact
held_at_place objects arities state fact n on here =
    let picked = picked_at state (ground_atoms objects arities) n fact on here in
    Contains-from_place _ picked.0 fact picked.1

-- a ground atom is true in a state exactly where its place is
pub true_at_place : (objects : ℕ) (arities : List ℕ) (state : State) (fact : Fact) (n : ℕ) (b : Bool) → slice_get (ground_atoms objects arities) n ≡ Some fact → slice_get state n ≡ Some b → IsTrue b ↔ Contains (true_atoms objects arities state) fact
true_at_place objects arities state fact n b here on = (
  (λ yes. held_at_place objects arities state fact n (on ∙ ap (λ x. Some x) yes) here),
  (λ among. let found = place_of_held objects arities state fact among in
      let same = atom_once objects arities found.0 n fact found.2 here in
      let yes : slice_get state n ≡ Some true = rw (← same) found.1 in
      let equal : b ≡ true = cc in equal),
)

-- a state of listed atoms has a value for each ground atom
pub length-those_of : (objects : ℕ) (arities : List ℕ) (facts : List Fact) → length (those_of objects arities facts) ≡ atom_count objects arities
length-those_of objects arities facts = length-map (ground_atoms objects arities) (is_among facts) ∙ length-ground_atoms objects arities
