use Rattle.std.proofs.Common.{◌≡◌, drop}
use Rattle.pddl_task.proofs.ParentNumbers.{given_numbers}
use Rattle.pddl_task.proofs.typing.given_parents.Given as goal

abbrev pub invariant-loop-place : goal.invariant-loop-place
invariant-loop-place l = l.parents.items ≡ given_numbers l.names (drop l.place l.types)
