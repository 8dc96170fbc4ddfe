-- Where each ground atom stands, and which atoms of a goal are missing in a state.
use Rattle.std.proofs.Common.{◌≡◌, ℕ, zero, suc, ◌+◌, ◌<◌, ◌⊎◌, Bool, true, false, cond, not, ◌&&◌, List, [], ◌∷◌, length, refl, ◌∙◌, inl, inr, ap, arith, map, zip, Some, All}
use Rattle.std.specs.List.{slice_get}
use Rattle.std.proofs.lemmas.List.Sums.{sum_by-cons}
use Rattle.std.proofs.lemmas.List.Elements.{All-head, All-tail}
use Rattle.ground_state.specs.declared.parts.Fact.{Fact}
use Rattle.ground_state.specs.Instance.{IsFact}
use Rattle.ground_state.specs.State.{State, missing}
use Rattle.ground_state.specs.GroundAtoms.{tuples, ground_atoms}
use Rattle.ground_state.proofs.Places.{tuple_place, ground_atom_place}

-- ---- each ground atom has a place
pub tuple_somewhere : (objects : ℕ) (args : List ℕ) → All (λ object. object < objects) args → (n : ℕ) × (slice_get (tuples objects (length args)) n ≡ Some args)
tuple_somewhere objects [] low = (zero, refl)
tuple_somewhere objects (object ∷ args) low =
    let P : ℕ → Type 0 = λ object. object < objects in
    let rest = tuple_somewhere objects args (All-tail P object args low) in
    (_, tuple_place objects (length args) object rest.0 args (All-head P object args low) rest.1)

pub atom_somewhere : (objects : ℕ) (arities : List ℕ) (fact : Fact) → IsFact objects arities fact → (n : ℕ) × (slice_get (ground_atoms objects arities) n ≡ Some fact)
atom_somewhere objects arities fact valid =
    let tuple = tuple_somewhere objects fact.args valid.args in
    (_, ground_atom_place objects fact.pred _ tuple.0 arities fact.args valid.arity refl tuple.1)

-- ---- places that are true of a goal and false in a state
abbrev pub is_missing : Bool × Bool → Bool
is_missing place = place.0 && not place.1

pub missing-cons : (wanted held : Bool) (goal state : State) → missing (wanted ∷ goal) (held ∷ state) ≡ cond (wanted && not held) 1 0 + missing goal state
missing-cons wanted held goal state = sum_by-cons (λ (place : Bool × Bool). cond (is_missing place) 1 0) (wanted, held) (zip goal state)

-- a place where nothing is missing
one_held : (a b : Bool) (n m : ℕ) → n ≡ cond (a && not b) 1 0 + m → n ≡ 0 → a ≡ true → b ≡ true
one_held true true n m step none wanted = refl
one_held true false n m step none wanted = absurd (omega arith)
one_held false b n m step none wanted = absurd (cc)

rest_held : (a b : Bool) (n m : ℕ) → n ≡ cond (a && not b) 1 0 + m → n ≡ 0 → m ≡ 0
rest_held a b n m step none = omega arith

one_more : (a b : Bool) (n m : ℕ) → n ≡ cond (a && not b) 1 0 + m → m ≡ 0 → (n ≡ 0) ⊎ ((a ≡ true) × (b ≡ false))
one_more true true n m step none = inl (omega arith)
one_more true false n m step none = inr (refl, refl)
one_more false b n m step none = inl (omega arith)

-- where nothing is missing, what the goal has is true in the state
pub none_missing : (f : Fact → Bool) (atoms : List Fact) (state : State) → length state ≡ length atoms → missing (map f atoms) state ≡ 0 → (n : ℕ) (atom : Fact) → slice_get atoms n ≡ Some atom → f atom ≡ true → slice_get state n ≡ Some true
none_missing f [] state long none n atom here wanted = absurd (cc)
none_missing f (head ∷ atoms) [] long none n atom here wanted = absurd (cc)
none_missing f (head ∷ atoms) (held ∷ state) long none zero atom here wanted =
    let same : head ≡ atom = cc in
    ap (λ x. Some x) (one_held (f head) held _ _ (missing-cons (f head) held (map f atoms) state) none (ap f same ∙ wanted))
none_missing f (head ∷ atoms) (held ∷ state) long none (suc n) atom here wanted =
    none_missing f atoms state (cc) (rest_held (f head) held _ _ (missing-cons (f head) held (map f atoms) state) none) n atom here wanted

-- an atom that the goal has and that is false in the state
pub record IsWanting (f : Fact → Bool) (atoms : List Fact) (state : State) : Type 0 where
  pub atom : Fact
  pub place : ℕ
  pub here : slice_get atoms place ≡ Some atom
  pub wanted : f atom ≡ true
  pub lacking : slice_get state place ≡ Some false

-- nothing is missing, or some atom is
pub some_missing : (f : Fact → Bool) (atoms : List Fact) (state : State) → length state ≡ length atoms → (missing (map f atoms) state ≡ 0) ⊎ IsWanting f atoms state
some_missing f [] state long = inl refl
some_missing f (head ∷ atoms) [] long = absurd (cc)
some_missing f (head ∷ atoms) (held ∷ state) long =
    elim (some_missing f atoms state (cc)) [
      | inr rest ↦ inr (record { atom = rest.atom; place = suc rest.place; here = rest.here; wanted = rest.wanted; lacking = rest.lacking })
      | inl none ↦ elim (one_more (f head) held _ _ (missing-cons (f head) held (map f atoms) state) none) [
        | inl still ↦ inl still
        | inr found ↦ inr (record { atom = head; place = zero; here = refl; wanted = found.0; lacking = ap (λ x. Some x) found.1 })
      ]
    ]
