use Rattle.std.proofs.Common.{◌≡◌, map}
use Rattle.std.specs.List.{range_with_len}
use Rattle.family_gen.specs.Problems.{lit}
use Rattle.family_gen.proofs.problems.all_lit.Given as goal

abbrev pub invariant-loop-number : goal.invariant-loop-number
invariant-loop-number l = l.atoms ≡ map lit (range_with_len 0 l.number)
