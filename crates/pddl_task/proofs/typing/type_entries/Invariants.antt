use Rattle.std.proofs.Common.{◌≡◌, map, take}
use Rattle.pddl_task.specs.Types.{entry_of}
use Rattle.pddl_task.proofs.typing.type_entries.Given as goal

abbrev pub invariant-loop-number : goal.invariant-loop-number
invariant-loop-number l = l.entries ≡ map (entry_of l.types) (take l.number l.names)
