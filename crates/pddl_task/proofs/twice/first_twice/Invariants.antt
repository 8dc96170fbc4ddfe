use Rattle.std.proofs.Common.{◌≡◌, map, take}
use Rattle.pddl_task.specs.Names.{with_names}
use Rattle.pddl_task.specs.Types.{text_of}
use Rattle.pddl_task.specs.Faults.{IsFirst, IsTwice}
use Rattle.pddl_task.proofs.twice.first_twice.Given as goal

abbrev pub invariant-loop-item : goal.invariant-loop-item
invariant-loop-item g l = record {
  names : l.seen ≡ with_names l.fn.seen (map text_of (map g.W.Worded.word (take l.item-index l.items)));
  faults : IsFirst (IsTwice l.fn.seen (map g.W.Worded.word (take l.item-index l.items))) l.first;
}
