use Rattle.std.proofs.Common.{◌≡◌, map, take}
use Rattle.pddl_task.specs.Parts.{schema_of}
use Rattle.pddl_task.proofs.entries.schemas_of.Given as goal

abbrev pub invariant-loop-action : goal.invariant-loop-action
invariant-loop-action l = l.entries ≡ map (schema_of l.scope.types l.scope.heads l.scope.constants) (take l.action-index l.actions)
