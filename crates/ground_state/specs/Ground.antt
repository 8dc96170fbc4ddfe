-- What a task and an instance of it come to for states: the objects with their types, the predicates' arities, and the
-- atoms of the start and of the goal.
use Rattle.std.specs.Prelude.{ℕ, ◌≡◌, ◌≢◌, ◌↔◌, List, map, length, Contains, AllPairs}
use Rattle.ground_state.specs.declared.parts.ObjectEntry.{ObjectEntry}
use Rattle.ground_state.specs.declared.parts.TaskParts.{TaskParts}
use Rattle.ground_state.specs.declared.parts.InstanceParts.{InstanceParts}
use Rattle.ground_state.specs.declared.parts.Fact.{Fact}
use Rattle.ground_state.specs.Task.{arities_of}
use Rattle.ground_state.specs.Instance.{IsFact}
use Rattle.ground_state.specs.GroundAtoms.{atom_count}
use Rattle.ground_state.specs.State.{State, those_of, true_atoms}

-- the types of the objects, the arities of the predicates, the state at the start, and the set of the goal's atoms
pub record Ground : Type 0 where
  pub object_types : List ℕ
  pub arities : List ℕ
  pub initial : State
  pub goal : State

-- what an instance of a task comes to
abbrev pub ground_of : TaskParts → InstanceParts → Ground
ground_of task instance = record {
  object_types = map (λ (entry : ObjectEntry). entry.of) instance.objects;
  arities = arities_of task;
  initial = those_of (length instance.objects) (arities_of task) instance.init;
  goal = those_of (length instance.objects) (arities_of task) instance.goal;
}

-- how many ground atoms an instance of a task has
abbrev pub atoms_needed : TaskParts → InstanceParts → ℕ
atoms_needed task instance = atom_count (length instance.objects) (arities_of task)

-- how many ground atoms there are
abbrev pub atoms_in : Ground → ℕ
atoms_in table = atom_count (length table.object_types) table.arities

-- a ground atom over the table's objects and predicates
abbrev pub IsAtom : Ground → Fact → Type 0
IsAtom table fact = IsFact (length table.object_types) table.arities fact

-- a state that says of each of the table's atoms whether it is true
abbrev pub IsStateOf : Ground → State → Type 0
IsStateOf table state = length state ≡ atoms_in table

-- the atom is one of those that are true in the state
abbrev pub Holds : Ground → State → Fact → Type 0
Holds table state fact = Contains (true_atoms (length table.object_types) table.arities state) fact

-- these are the atoms that a goal lists and that do not hold in the state, each of them once
pub record AreMissing (table : Ground) (goal : List Fact) (state : State) (atoms : List Fact) : Type 0 where
  pub once : AllPairs (λ one other. one ≢ other) atoms
  pub listed : (fact : Fact) → Contains atoms fact ↔ (Contains goal fact × ¬ Holds table state fact)
