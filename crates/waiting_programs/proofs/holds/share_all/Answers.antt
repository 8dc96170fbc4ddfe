-- A slot is held once more than its count before, and as often as the list names it in the end.
use Rattle.std.proofs.Common.{arith}
use Rattle.waiting_programs.proofs.Times.{times_before}
use Rattle.waiting_programs.proofs.Exchanging.{shared_more}
use Rattle.waiting_programs.proofs.holds.share_all.Goals as goal

pub share-requires-clause-fits : goal.share-requires-clause-fits
share-requires-clause-fits g c =
    let slot = c.slot-item.result in
    let before = times_before c.args.slots.now c.loop-slot.slot-index slot c.loop-slot-test.true c.slot-item.is in
    omega (arith, c.requires.fit slot, c.loop-slot.invariant.shared.counts slot, before)

pub loop-slot-preserved : goal.loop-slot-preserved
loop-slot-preserved g c =
    let e = c.share.ensures in
    record {
      shared = shared_more _ _ c.share.new.self c.args.slots.now c.loop-slot.slot-index c.slot-item.result c.loop-slot-test.true c.slot-item.is c.loop-slot.invariant.shared e.value e.count e.others;
      spare = omega (arith, e.spare, c.loop-slot.invariant.spare);
    }
