use Rattle.std.proofs.Common.{◌≡◌, map, take}
use Rattle.pddl_task.specs.Names.{with_names}
use Rattle.pddl_task.specs.Types.{text_of}
use Rattle.pddl_task.proofs.names.Names.add_all.Given as goal

abbrev pub invariant-loop-item : goal.invariant-loop-item
invariant-loop-item g l = l.self ≡ with_names l.fn.self (map text_of (map g.W.Worded.word (take l.item-index l.items)))
