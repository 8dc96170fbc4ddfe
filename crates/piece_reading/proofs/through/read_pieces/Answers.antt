use Rattle.std.proofs.Common.{◌∙◌, arith, None}
use Rattle.bfgp_outside.proofs.Following.{goes_on_then, counts_then, asks_then}
use Rattle.piece_reading.proofs.Front.{front_then}
use Rattle.piece_reading.proofs.through.read_pieces.Goals as goal

pub returns-in_err-count-clause-asks : goal.returns-in_err-count-clause-asks
returns-in_err-count-clause-asks g c = asks_then (g.S.Shelf.asked c.args.shelf.now) (g.S.Shelf.asked c.loop-count.shelf) (g.S.Shelf.asked c.read_at.new.self) c.args.name.now 1 c.loop-count.invariant.asks c.in_err-count.ensures.asks

pub returns-then-count-eq0-clause-asks : goal.returns-then-count-eq0-clause-asks
returns-then-count-eq0-clause-asks g c = asks_then (g.S.Shelf.asked c.args.shelf.now) (g.S.Shelf.asked c.loop-count.shelf) (g.S.Shelf.asked c.read_at.new.self) c.args.name.now 1 c.loop-count.invariant.asks c.in_ok-count.ensures.asks

pub returns-then-count-limit-clause-asks : goal.returns-then-count-limit-clause-asks
returns-then-count-limit-clause-asks g c = asks_then (g.S.Shelf.asked c.args.shelf.now) (g.S.Shelf.asked c.loop-count.shelf) (g.S.Shelf.asked c.read_at.new.self) c.args.name.now 1 c.loop-count.invariant.asks c.in_ok-count.ensures.asks

pub loop-count-preserved : goal.loop-count-preserved
loop-count-preserved g c = record {
  room = omega arith;
  within = omega arith;
  asked = c.take.ensures.asked ∙ c.loop-count.invariant.asked;
  came = front_then g.T.Taker.stands_for c.args.taker.now c.loop-count.taker c.take.new.self (g.S.Shelf.files c.args.shelf.now) (g.S.Shelf.files c.loop-count.shelf) c.args.name.now c.read_at.new.into c.loop-count.place c.in_ok-count.count
      c.loop-count.invariant.goes_on.kept c.loop-count.invariant.came c.in_ok-count.ensures.bytes c.take.ensures.took c.in_ok-count.ensures.bound;
  goes_on = goes_on_then (g.S.Shelf.files) g.S.Shelf.faults g.S.Shelf.absences c.args.shelf.now c.loop-count.shelf c.read_at.new.self c.loop-count.invariant.goes_on c.in_ok-count.ensures.goes_on;
  counts = counts_then g.S.Shelf.faults g.S.Shelf.absences c.args.shelf.now c.loop-count.shelf c.read_at.new.self None c.loop-count.invariant.counts c.in_ok-count.ensures.counts;
  asks = asks_then (g.S.Shelf.asked c.args.shelf.now) (g.S.Shelf.asked c.loop-count.shelf) (g.S.Shelf.asked c.read_at.new.self) c.args.name.now 1 c.loop-count.invariant.asks c.in_ok-count.ensures.asks;
}
