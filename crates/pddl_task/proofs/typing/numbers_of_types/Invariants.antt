use Rattle.std.proofs.Common.{◌≡◌, map, take}
use Rattle.pddl_task.specs.Types.{type_number}
use Rattle.pddl_task.proofs.typing.numbers_of_types.Given as goal

abbrev pub invariant-loop-place : goal.invariant-loop-place
invariant-loop-place l = l.numbers ≡ map (type_number l.names) (take l.place l.list)
