-- What a machine over ground atoms is made of.
use Rattle.std.specs.Prelude.{ℕ, ◌<◌, ◌≤◌, List, length, All}
use Rattle.program_model.specs.declared.alphabet.TheConstants.{MAX_OPS}
use Rattle.program_model.specs.declared.machine.TheConstants.{MAX_INSTANCES, MAX_POINTERS}
use Rattle.program_model.specs.Semantics.{Semantics}
use Rattle.ground_state.specs.declared.parts.TaskParts.{TaskParts}
use Rattle.ground_state.specs.Ground.{Ground}
use Rattle.ground_state.specs.Action.{IsTableOf}
use Rattle.pointer_machine.specs.declared.pointing.Pointing.{Pointing}
use Rattle.pointer_machine.specs.Operations.{operation_count}
use Rattle.pointer_machine.specs.Meaning.{meaning}

-- a task, the tables of its instances, and how many pointers there are
pub record MachineParts : Type 0 where
  pub task : TaskParts
  pub tables : List Ground
  pub pointers : ℕ

-- the parts keep the limits of a machine, and each table is one of the task
pub record AreMachineParts (parts : MachineParts) : Type 0 where
  pub tables : All (IsTableOf parts.task) parts.tables
  pub some_tables : 0 < length parts.tables
  pub few_tables : length parts.tables ≤ MAX_INSTANCES
  pub some_pointers : 0 < parts.pointers
  pub few_pointers : parts.pointers ≤ MAX_POINTERS
  pub few_operations : operation_count parts.task parts.pointers ≤ MAX_OPS

-- what a machine of these parts means
abbrev pub meaning_of : MachineParts → Semantics Pointing
meaning_of parts = meaning parts.task parts.tables parts.pointers
