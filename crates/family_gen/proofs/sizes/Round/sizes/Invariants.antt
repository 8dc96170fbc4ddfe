use Rattle.std.proofs.Common.{◌≡◌, ◌+◌, ◌*◌, ◌%◌, map}
use Rattle.std.specs.List.{range_with_len}
use Rattle.family_gen.proofs.sizes.Round.sizes.Given as goal

abbrev pub invariant-loop-instance : goal.invariant-loop-instance
invariant-loop-instance l = l.sizes ≡ map (λ i. l.self.least + (l.number + l.self.stride * i) % l.self.span) (range_with_len 0 l.instance)
