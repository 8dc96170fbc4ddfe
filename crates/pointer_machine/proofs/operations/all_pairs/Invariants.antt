use Rattle.std.proofs.Common.{◌≡◌}
use Rattle.std.specs.Prelude.{flat_map}
use Rattle.std.specs.List.{range_with_len}
use Rattle.pointer_machine.specs.Operations.{pairs_of}
use Rattle.pointer_machine.proofs.operations.all_pairs.Given as goal

abbrev pub invariant-loop-pointer : goal.invariant-loop-pointer
invariant-loop-pointer l = l.listed.items ≡ flat_map (pairs_of l.pointers) (range_with_len 0 l.pointer)
