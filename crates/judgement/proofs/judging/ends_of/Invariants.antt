use Rattle.std.proofs.Common.{◌≡◌, map, take}
use Rattle.judgement.proofs.judging.ends_of.Given as goal

abbrev pub invariant-loop-standing : goal.invariant-loop-standing
invariant-loop-standing l = l.ends.items ≡ map (λ standing. standing.steps) (take l.standing-index l.standings.items)
