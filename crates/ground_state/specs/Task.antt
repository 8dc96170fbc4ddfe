-- When the parts of a planning task fit together.
use Rattle.std.specs.Prelude.{ℕ, zero, suc, ◌≡◌, ◌≢◌, ◌==◌, ◌<◌, ◌≤◌, ◌^◌, nat_lt, Bool, ◌&&◌, List, map, length, slice_get, slice_index, All, AllPairs, Some, codes}
use Rattle.std.specs.List.{list_any, range_with_len}
use Rattle.flag_rules.specs.Name.{IsName}
use Rattle.ground_state.specs.declared.parts.TypeEntry.{TypeEntry}
use Rattle.ground_state.specs.declared.parts.ObjectEntry.{ObjectEntry}
use Rattle.ground_state.specs.declared.parts.PredicateEntry.{PredicateEntry}
use Rattle.ground_state.specs.declared.parts.SchemaEntry.{SchemaEntry}
use Rattle.ground_state.specs.declared.parts.Lifted.{Lifted}
use Rattle.ground_state.specs.declared.parts.Term.{Term}
use Rattle.ground_state.specs.declared.parts.Term.TheVariants.{Param, Object}
use Rattle.ground_state.specs.declared.parts.TaskParts.{TaskParts}
use Rattle.ground_state.specs.declared.parts.TheConstants.{MAX_OBJECTS, MAX_PARAMETERS, MAX_ARITY}

-- the argument counts of a task's predicates, in their order
abbrev pub arities_of : TaskParts → List ℕ
arities_of task = map (λ (predicate : PredicateEntry). predicate.arity) task.predicates

-- a type reaches itself, and what its parent reaches; a number that is no type reaches nothing
pub data Reaches (types : List TypeEntry) : ℕ → ℕ → Type 0 where
  itself : {number : ℕ} → number < length types → Reaches types number number
  by_parent : {number above : ℕ} {entry : TypeEntry} → slice_get types number ≡ Some entry → Reaches types entry.parent above → Reaches types number above

-- the type that stands this many steps above a type
abbrev pub ancestor : List TypeEntry → ℕ → ℕ → ℕ
ancestor types zero number = number
ancestor types (suc steps) number = slice_index (map (λ (entry : TypeEntry). entry.parent) types) (ancestor types steps number)

-- whether a number is a type that is another one or stands under it by fewer steps than there are types
abbrev pub reaches : List TypeEntry → ℕ → ℕ → Bool
reaches types number above =
    nat_lt number (length types) && list_any (λ steps. ancestor types steps number == above) (range_with_len 0 (length types))

-- every name is one in lower case, and no two of them are the same
pub record AreNames (names : List (List ℕ)) : Type 0 where
  pub each : All IsName names
  pub differ : AllPairs (λ one other. one ≢ other) names

-- type 0 is `object`, which is its own parent, and every type reaches it
pub record AreTypes (types : List TypeEntry) : Type 0 where
  pub few : length types < 2 ^ 32
  pub names : AreNames (map (λ (entry : TypeEntry). entry.name) types)
  pub root : (entry : TypeEntry) × (slice_get types 0 ≡ Some entry) × (entry.name ≡ codes "object") × (entry.parent ≡ 0)
  pub parents : All (λ (entry : TypeEntry). entry.parent < length types) types
  pub rooted : (number : ℕ) → number < length types → Reaches types number 0

-- objects or constants of a task with so many types
pub record AreObjects (types : ℕ) (objects : List ObjectEntry) : Type 0 where
  pub few : length objects ≤ MAX_OBJECTS
  pub names : AreNames (map (λ (entry : ObjectEntry). entry.name) objects)
  pub in_range : All (λ (entry : ObjectEntry). entry.of < types) objects

-- an argument is a parameter of the schema or a constant
abbrev pub IsTerm : ℕ → ℕ → Term → Type 0
IsTerm params constants (Param place) = place < params
IsTerm params constants (Object number) = number < constants

-- the atom has as many arguments as its predicate, each a parameter of the schema or a constant
pub record IsLifted (task : TaskParts) (params : ℕ) (atom : Lifted) : Type 0 where
  pub arity : slice_get (arities_of task) atom.pred ≡ Some (length atom.args)
  pub args : All (IsTerm params (length task.constants)) atom.args

pub record AreLifted (task : TaskParts) (params : ℕ) (atoms : List Lifted) : Type 0 where
  pub few : length atoms < 2 ^ 32
  pub each : All (IsLifted task params) atoms

pub record IsSchema (task : TaskParts) (schema : SchemaEntry) : Type 0 where
  pub few : length schema.params ≤ MAX_PARAMETERS
  pub params : All (λ number. number < length task.types) schema.params
  pub pre : AreLifted task (length schema.params) schema.pre
  pub add : AreLifted task (length schema.params) schema.add
  pub del : AreLifted task (length schema.params) schema.del

pub record ArePredicates (predicates : List PredicateEntry) : Type 0 where
  pub few : length predicates < 2 ^ 32
  pub names : AreNames (map (λ (entry : PredicateEntry). entry.name) predicates)
  pub arities : All (λ (entry : PredicateEntry). entry.arity ≤ MAX_ARITY) predicates

pub record AreSchemas (task : TaskParts) (schemas : List SchemaEntry) : Type 0 where
  pub few : length schemas < 2 ^ 32
  pub names : AreNames (map (λ (entry : SchemaEntry). entry.name) schemas)
  pub each : All (IsSchema task) schemas

-- the parts of a task fit together: names differ, numbers are in range, and the limits are kept
pub record IsTask (task : TaskParts) : Type 0 where
  pub types : AreTypes task.types
  pub constants : AreObjects (length task.types) task.constants
  pub predicates : ArePredicates task.predicates
  pub schemas : AreSchemas task task.schemas
