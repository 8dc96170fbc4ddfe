use Rattle.std.proofs.Common.{◌≡◌, map}
use Rattle.std.specs.List.{range_with_len}
use Rattle.family_gen.specs.Problems.{cell}
use Rattle.family_gen.proofs.problems.cells.Given as goal

abbrev pub invariant-loop-number : goal.invariant-loop-number
invariant-loop-number l = l.cells ≡ map cell (range_with_len 0 l.number)
