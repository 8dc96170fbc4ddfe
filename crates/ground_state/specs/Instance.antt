-- When the parts of a planning instance fit its task.
use Rattle.std.specs.Prelude.{ℕ, ◌≡◌, ◌<◌, List, ◌++◌, length, slice_get, All, Some}
use Rattle.ground_state.specs.declared.parts.ObjectEntry.{ObjectEntry}
use Rattle.ground_state.specs.declared.parts.TaskParts.{TaskParts}
use Rattle.ground_state.specs.declared.parts.InstanceParts.{InstanceParts}
use Rattle.ground_state.specs.declared.parts.Fact.{Fact}
use Rattle.ground_state.specs.Task.{AreObjects, arities_of}

-- a ground atom over so many objects and predicates of these arities
pub record IsFact (objects : ℕ) (arities : List ℕ) (fact : Fact) : Type 0 where
  pub arity : slice_get arities fact.pred ≡ Some (length fact.args)
  pub args : All (λ object. object < objects) fact.args

-- the parts of an instance fit its task: the objects begin with the task's constants, and the facts are in range
pub record IsInstance (task : TaskParts) (instance : InstanceParts) : Type 0 where
  pub some : 0 < length instance.objects
  pub objects : AreObjects (length task.types) instance.objects
  pub constants : (others : List ObjectEntry) × (instance.objects ≡ task.constants ++ others)
  pub init : All (IsFact (length instance.objects) (arities_of task)) instance.init
  pub goal : All (IsFact (length instance.objects) (arities_of task)) instance.goal
