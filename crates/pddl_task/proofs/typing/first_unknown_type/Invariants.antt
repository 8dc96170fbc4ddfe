use Rattle.std.proofs.Common.{take}
use Rattle.std.specs.Prelude.{Any}
use Rattle.pddl_task.specs.Faults.{IsFirst, IsUnknownType}
use Rattle.pddl_task.proofs.typing.first_unknown_type.Given as goal

abbrev pub invariant-loop-place : goal.invariant-loop-place
invariant-loop-place l = IsFirst (λ fault. Any (IsUnknownType l.types fault) (take l.place l.list)) l.first
