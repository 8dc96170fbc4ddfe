use Rattle.std.proofs.Common.{◌≡◌, ◌+◌, ◌-◌, ◌++◌, map}
use Rattle.std.specs.List.{range_with_len}
use Rattle.pointer_machine.proofs.Lists.{pair_with}
use Rattle.pointer_machine.proofs.operations.add_pairs_of.Given as goal

abbrev pub invariant-below : goal.invariant-below
invariant-below l = l.listed.items ≡ l.initial.listed.items ++ map (pair_with l.pointer) (range_with_len 0 l.other)

abbrev pub invariant-above : goal.invariant-above
invariant-above l = l.listed.items ≡ l.initial.listed.items ++ map (pair_with l.pointer) (range_with_len (l.pointer + 1) (l.other - (l.pointer + 1)))
