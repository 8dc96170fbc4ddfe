-- A slot is still held when its turn comes, as often at least as the rest of the list names it.
use Rattle.std.proofs.Common.{arith}
use Rattle.waiting_programs.proofs.Times.{times_before}
use Rattle.waiting_programs.proofs.Exchanging.{released_more}
use Rattle.waiting_programs.proofs.holds.release_all.Goals as goal

pub release-requires : goal.release-requires
release-requires g c =
    let slot = c.slot-item.result in
    let before = times_before c.args.slots.now c.loop-slot.slot-index slot c.loop-slot-test.true c.slot-item.is in
    record { live = omega (arith, c.requires.held slot, c.loop-slot.invariant.released.counts slot, before) }

pub loop-slot-preserved : goal.loop-slot-preserved
loop-slot-preserved g c =
    let e = c.release.ensures in
    record {
      released = released_more _ _ c.release.new.self c.args.slots.now c.loop-slot.slot-index c.slot-item.result c.loop-slot-test.true c.slot-item.is c.requires.held c.loop-slot.invariant.released e.value e.count e.others;
      spare = omega (arith, e.spare, c.loop-slot.invariant.spare);
    }
