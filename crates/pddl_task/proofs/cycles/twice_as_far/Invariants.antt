use Rattle.std.proofs.Common.{◌≡◌, map, take, slice_index}
use Rattle.pddl_task.proofs.cycles.twice_as_far.Given as goal

abbrev pub invariant-loop-number : goal.invariant-loop-number
invariant-loop-number l = l.further.items ≡ map (slice_index l.above) (take l.number-index l.above)
