-- More room changes nothing else.
use Rattle.std.proofs.Common.{ap}
use Rattle.slab.specs.Slab.{Slab}
use Rattle.waiting_programs.proofs.Sharing.{shared_same}
use Rattle.waiting_programs.proofs.programs.WaitingPrograms.reserve.Goals as goal

pub invariant_of-self-in_err-reserve-3 : goal.invariant_of-self-in_err-reserve-3
invariant_of-self-in_err-reserve-3 g c =
    shared_same _ c.reserve.new.self.nodes _ c.reserve-3.new.self _ c.reserve-2.new.self.slots c.self.invariant c.reserve.ensures.nodes c.reserve-3.ensures.slots (ap (λ (s : Slab _). s.slots) c.reserve-2.ensures.rest_kept)

pub invariant_of-self-2 : goal.invariant_of-self-2
invariant_of-self-2 g c =
    shared_same _ c.reserve.new.self.nodes _ c.reserve-3.new.self _ c.reserve-2.new.self.slots c.self.invariant c.reserve.ensures.nodes c.reserve-3.ensures.slots (ap (λ (s : Slab _). s.slots) c.reserve-2.ensures.rest_kept)
