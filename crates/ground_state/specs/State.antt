-- States as sets of ground atoms. A state says of each ground atom, in their order, whether it is true.
use Rattle.std.specs.Prelude.{ℕ, Bool, ◌&&◌, ◌||◌, ◌==◌, not, List, map, zip, count_by}
use Rattle.std.specs.Str.{bytes_eq}
use Rattle.std.specs.List.{list_any, items_where_true}
use Rattle.ground_state.specs.declared.parts.Fact.{Fact}
use Rattle.ground_state.specs.GroundAtoms.{ground_atoms}

abbrev pub State : Type 0
State = List Bool

-- the two atoms have the same predicate and the same objects
abbrev pub is_same : Fact → Fact → Bool
is_same one other = one.pred == other.pred && bytes_eq one.args other.args

-- the state in which an atom is true exactly where it is listed, once or more often
abbrev pub those_of : ℕ → List ℕ → List Fact → State
those_of objects arities facts = map (λ atom. list_any (is_same atom) facts) (ground_atoms objects arities)

-- the atoms that are true in a state
abbrev pub true_atoms : ℕ → List ℕ → State → List Fact
true_atoms objects arities state = items_where_true state (ground_atoms objects arities)

-- how many atoms are true of a goal and false in a state
abbrev pub missing : State → State → ℕ
missing goal state = count_by (λ place. place.0 && not place.1) (zip goal state)

-- whether an atom is one of those that are true in a state
abbrev pub is_true : ℕ → List ℕ → State → Fact → Bool
is_true objects arities state atom = list_any (is_same atom) (true_atoms objects arities state)

-- a state with the atoms of a set added
abbrev pub with_atoms : State → State → State
with_atoms state atoms = map (λ place. place.0 || place.1) (zip state atoms)

-- a state without the atoms of a set
abbrev pub without_atoms : State → State → State
without_atoms state atoms = map (λ place. place.0 && not place.1) (zip state atoms)
