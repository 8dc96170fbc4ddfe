use Rattle.std.proofs.Common.{arith, refl, sym, subst, List, ℕ, Option, None, Some}
use Rattle.bfgp_outside.specs.Shelf.{Told, CountsFaults}
use Rattle.bfgp_outside.specs.declared.shelf.ShelfFault.{ShelfFault}
use Rattle.bfgp_outside.proofs.Following.{goes_on_then, counts_then, counts_none, told_by_error, told_by_want, asks_none, asks_then}
use Rattle.bfgp_outside.proofs.Front.{IsFrontOf, front_none, front_more}
use Rattle.bfgp_outside.proofs.whole.read_pieces.Goals as goal

pub returns-in_err-count-clause-counts : goal.returns-in_err-count-clause-counts
returns-in_err-count-clause-counts g c =
    let fault = c.in_err-count.field-0.0 in
    subst (λ (told : Option ShelfFault). CountsFaults g.S.Shelf.faults g.S.Shelf.absences c.args.shelf.now c.read_at.new.self told) (told_by_error c.from_residual.result fault c.from_residual.ensures.1)
    (counts_then g.S.Shelf.faults g.S.Shelf.absences c.args.shelf.now c.loop-shelf.shelf c.read_at.new.self (Some fault) c.loop-shelf.invariant.counts c.in_err-count.ensures.counts)

pub returns-in_err-count-clause-asks : goal.returns-in_err-count-clause-asks
returns-in_err-count-clause-asks g c = asks_then (g.S.Shelf.asked c.args.shelf.now) (g.S.Shelf.asked c.loop-shelf.shelf) (g.S.Shelf.asked c.read_at.new.self) c.args.name.now 1 c.loop-shelf.invariant.asks c.in_err-count.ensures.asks

pub returns-then-count-eq0-clause-counts : goal.returns-then-count-eq0-clause-counts
returns-then-count-eq0-clause-counts g c = counts_then g.S.Shelf.faults g.S.Shelf.absences c.args.shelf.now c.loop-shelf.shelf c.read_at.new.self None c.loop-shelf.invariant.counts c.in_ok-count.ensures.counts

pub returns-then-count-eq0-clause-asks : goal.returns-then-count-eq0-clause-asks
returns-then-count-eq0-clause-asks g c = asks_then (g.S.Shelf.asked c.args.shelf.now) (g.S.Shelf.asked c.loop-shelf.shelf) (g.S.Shelf.asked c.read_at.new.self) c.args.name.now 1 c.loop-shelf.invariant.asks c.in_ok-count.ensures.asks

pub returns-in_err-append-clause-counts : goal.returns-in_err-append-clause-counts
returns-in_err-append-clause-counts g c =
    subst (λ (told : Option ShelfFault). CountsFaults g.S.Shelf.faults g.S.Shelf.absences c.args.shelf.now c.read_at.new.self told) (told_by_want c.from_residual-in_err-append.result c.from_residual-in_err-append.ensures.1)
    (counts_then g.S.Shelf.faults g.S.Shelf.absences c.args.shelf.now c.loop-shelf.shelf c.read_at.new.self None c.loop-shelf.invariant.counts c.in_ok-count.ensures.counts)

pub returns-in_err-append-clause-asks : goal.returns-in_err-append-clause-asks
returns-in_err-append-clause-asks g c = asks_then (g.S.Shelf.asked c.args.shelf.now) (g.S.Shelf.asked c.loop-shelf.shelf) (g.S.Shelf.asked c.read_at.new.self) c.args.name.now 1 c.loop-shelf.invariant.asks c.in_ok-count.ensures.asks

pub returns-clause-counts : goal.returns-clause-counts
returns-clause-counts g c = c.loop-shelf.invariant.counts

pub returns-clause-asks : goal.returns-clause-asks
returns-clause-asks g c = c.loop-shelf.invariant.asks

pub loop-shelf-init : goal.loop-shelf-init
loop-shelf-init g c = record {
  room = c.requires.room;
  front = front_none (g.S.Shelf.files c.args.shelf.now) c.args.name.now c.args.bytes.now c.requires.empty;
  goes_on = record { kept = refl; faults_later = omega arith; absences_later = omega arith };
  counts = counts_none g.S.Shelf.faults g.S.Shelf.absences c.args.shelf.now;
  asks = asks_none (g.S.Shelf.asked c.args.shelf.now) c.args.name.now;
}

pub loop-shelf-preserved : goal.loop-shelf-preserved
loop-shelf-preserved g c =
    let files = g.S.Shelf.files in
    let front = front_more (files c.args.shelf.now) (files c.loop-shelf.shelf) c.args.name.now c.loop-shelf.bytes c.read_at.new.into c.len-in-loop-shelf.result c.in_ok-count.count
    c.loop-shelf.invariant.goes_on.kept c.len-in-loop-shelf.ensures c.loop-shelf.invariant.front c.in_ok-count.ensures.bytes in
    record {
      room = omega arith;
      front = subst (λ (read : List ℕ). Told (files c.args.shelf.now) c.args.name.now (IsFrontOf read)) (sym c.in_ok-append.ensures.ok) front;
      goes_on = goes_on_then files g.S.Shelf.faults g.S.Shelf.absences c.args.shelf.now c.loop-shelf.shelf c.read_at.new.self c.loop-shelf.invariant.goes_on c.in_ok-count.ensures.goes_on;
      counts = counts_then g.S.Shelf.faults g.S.Shelf.absences c.args.shelf.now c.loop-shelf.shelf c.read_at.new.self None c.loop-shelf.invariant.counts c.in_ok-count.ensures.counts;
      asks = asks_then (g.S.Shelf.asked c.args.shelf.now) (g.S.Shelf.asked c.loop-shelf.shelf) (g.S.Shelf.asked c.read_at.new.self) c.args.name.now 1 c.loop-shelf.invariant.asks c.in_ok-count.ensures.asks;
    }
