use Rattle.std.proofs.Common.{◌≡◌, take}
use Rattle.judgement.proofs.judging.copy_of.Given as goal

abbrev pub invariant-loop-standing : goal.invariant-loop-standing
invariant-loop-standing l = l.copy.items ≡ take l.standing-index l.standings.items
