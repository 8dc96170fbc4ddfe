use Rattle.std.proofs.Common.{arith}
use Rattle.pddl_task.specs.Faults.{IsUnknownType}
use Rattle.pddl_task.proofs.First.{first_at_end}
use Rattle.pddl_task.proofs.typing.first_unknown_type.Goals as goal

pub returns : goal.returns
returns c = first_at_end (IsUnknownType c.args.types.now) c.args.list.now c.loop-place.place c.loop-place.first (omega arith) c.loop-place.invariant
