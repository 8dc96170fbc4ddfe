-- Acting: the atoms of an action schema at given objects, where an action is applicable, and the state that it leads to.
use Rattle.std.specs.Prelude.{ℕ, ◌≡◌, ◌<◌, Bool, ◌&&◌, if◌then◌else◌, List, [], map, zip, length, slice_index, slice_index_or, All, Contains}
use Rattle.std.specs.List.{list_all, AllZip}
use Rattle.ground_state.specs.declared.parts.TypeEntry.{TypeEntry}
use Rattle.ground_state.specs.declared.parts.TaskParts.{TaskParts}
use Rattle.ground_state.specs.declared.parts.InstanceParts.{InstanceParts}
use Rattle.ground_state.specs.declared.parts.SchemaEntry.{SchemaEntry}
use Rattle.ground_state.specs.declared.parts.Lifted.{Lifted}
use Rattle.ground_state.specs.declared.parts.Term.{Term}
use Rattle.ground_state.specs.declared.parts.Term.TheVariants.{Param, Object}
use Rattle.ground_state.specs.declared.parts.Fact.{Fact}
use Rattle.ground_state.specs.Task.{Reaches, reaches}
use Rattle.ground_state.specs.Instance.{IsInstance}
use Rattle.ground_state.specs.State.{State, those_of, is_true, with_atoms, without_atoms}
use Rattle.ground_state.specs.Ground.{Ground, ground_of, Holds}

-- the object that an argument of a schema's atom stands for, where these are the objects of the parameters
abbrev pub object_of : List ℕ → Term → ℕ
object_of args (Param place) = slice_index args place
object_of args (Object number) = number

-- a schema's atom at these objects
abbrev pub grounded : List ℕ → Lifted → Fact
grounded args atom = record { pred = atom.pred; args = map (object_of args) atom.args }

-- the set of a schema's atoms at these objects
abbrev pub those_at : Ground → List ℕ → List Lifted → State
those_at table args atoms = those_of (length table.object_types) table.arities (map (grounded args) atoms)

-- the schema of a number
abbrev pub schema_of : TaskParts → ℕ → SchemaEntry
schema_of task number = slice_index_or task.schemas number (record { name = []; params = []; pre = []; add = []; del = [] })

-- acting at these objects adds an atom
abbrev pub Adds : TaskParts → ℕ → List ℕ → Fact → Type 0
Adds task schema args fact = Contains (map (grounded args) (schema_of task schema).add) fact

-- acting at these objects deletes an atom
abbrev pub Deletes : TaskParts → ℕ → List ℕ → Fact → Type 0
Deletes task schema args fact = Contains (map (grounded args) (schema_of task schema).del) fact

-- the table is what an instance of the task comes to
pub record IsTableOf (task : TaskParts) (table : Ground) : Type 0 where
  pub instance : InstanceParts
  pub fits : IsInstance task instance
  pub made : table ≡ ground_of task instance

-- the number of a schema of the task, and an object of the table for each of its parameters
pub record IsAction (task : TaskParts) (table : Ground) (schema : ℕ) (args : List ℕ) : Type 0 where
  pub known : schema < length task.schemas
  pub count : length args ≡ length (schema_of task schema).params
  pub objects : All (λ object. object < length table.object_types) args

-- the type of an object of the table is this one or stands under it
abbrev pub IsOfType : TaskParts → Ground → ℕ → ℕ → Type 0
IsOfType task table object number = Reaches task.types (slice_index table.object_types object) number

-- each object is of its parameter's type, and every precondition atom at the objects is true in the state
pub record Applicable (task : TaskParts) (table : Ground) (schema : ℕ) (args : List ℕ) (state : State) : Type 0 where
  pub types : AllZip (IsOfType task table) args (schema_of task schema).params
  pub pre : All (λ atom. Holds table state (grounded args atom)) (schema_of task schema).pre

-- whether objects of these types are each of a parameter's type
abbrev pub are_of_types : List TypeEntry → List ℕ → List ℕ → List ℕ → Bool
are_of_types types object_types args params = list_all (λ place. reaches types (slice_index object_types place.0) place.1) (zip args params)

-- whether an action is applicable
abbrev pub is_applicable : TaskParts → Ground → ℕ → List ℕ → State → Bool
is_applicable task table schema args state =
    are_of_types task.types table.object_types args (schema_of task schema).params
    && list_all (λ atom. is_true (length table.object_types) table.arities state (grounded args atom)) (schema_of task schema).pre

-- the state without the deleted atoms, then with the added atoms
abbrev pub result_of : TaskParts → Ground → ℕ → List ℕ → State → State
result_of task table schema args state =
    with_atoms (without_atoms state (those_at table args (schema_of task schema).del)) (those_at table args (schema_of task schema).add)

-- the state that acting leads to: what is not applicable changes nothing
abbrev pub state_after : TaskParts → Ground → ℕ → List ℕ → State → State
state_after task table schema args state = (if is_applicable task table schema args state then result_of task table schema args state else state)
