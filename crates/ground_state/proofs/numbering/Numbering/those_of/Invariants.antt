use Rattle.std.proofs.Common.{◌≡◌, take}
use Rattle.ground_state.specs.State.{those_of}
use Rattle.ground_state.proofs.numbering.Numbering.those_of.Given as goal

abbrev pub invariant-loop-fact : goal.invariant-loop-fact
invariant-loop-fact l = l.bits ≡ those_of l.self.0 l.self.1 (take l.fact-index l.facts)
