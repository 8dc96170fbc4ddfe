use Rattle.std.proofs.Common.{◌≡◌, ◌∷◌, map}
use Rattle.std.specs.List.{range_with_len}
use Rattle.family_gen.specs.Problems.{at, next}
use Rattle.family_gen.proofs.problems.corridor.Given as goal

abbrev pub invariant-loop-number : goal.invariant-loop-number
invariant-loop-number l = l.init ≡ at 0 ∷ map next (range_with_len 0 l.number)
