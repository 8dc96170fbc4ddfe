use Rattle.std.proofs.Common.{◌≡◌, map}
use Rattle.std.specs.List.{range_with_len}
use Rattle.family_gen.specs.Problems.{lamp}
use Rattle.family_gen.proofs.problems.lamps.Given as goal

abbrev pub invariant-loop-number : goal.invariant-loop-number
invariant-loop-number l = l.lamps ≡ map lamp (range_with_len 0 l.number)
