use Rattle.std.proofs.Common.{◌≡◌, ◌++◌, map, take}
use Rattle.pddl_task.specs.Parts.{object_of}
use Rattle.pddl_task.proofs.entries.add_objects.Given as goal

abbrev pub invariant-loop-place : goal.invariant-loop-place
invariant-loop-place l = l.entries ≡ l.fn.entries ++ map (object_of l.types) (take l.place l.list)
