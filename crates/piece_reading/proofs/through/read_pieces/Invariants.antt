use Rattle.std.proofs.Common.{◌≡◌, ◌<◌, ◌≤◌, length, ◌-◌, None}
use Rattle.bfgp_outside.specs.Shelf.{CountsFaults, GoesOn, Asks}
use Rattle.piece_reading.proofs.Front.{TookFront}
use Rattle.piece_reading.proofs.through.read_pieces.Given as goal

abbrev pub invariant-loop-count : goal.invariant-loop-count
invariant-loop-count g l = record {
  room : 0 < length l.piece;
  within : l.place ≤ l.limit;
  asked : g.T.Taker.asked l.taker ≡ g.T.Taker.asked l.fn.taker;
  came : TookFront g.T.Taker.stands_for l.fn.taker l.taker (g.S.Shelf.files l.fn.shelf) l.name l.place;
  goes_on : GoesOn g.S.Shelf.files g.S.Shelf.faults g.S.Shelf.absences l.fn.shelf l.shelf;
  counts : CountsFaults g.S.Shelf.faults g.S.Shelf.absences l.fn.shelf l.shelf None;
  asks : Asks (g.S.Shelf.asked l.fn.shelf) (g.S.Shelf.asked l.shelf) l.name;
}

abbrev pub decreases-loop-count : goal.decreases-loop-count
decreases-loop-count g l = l.limit - l.place
