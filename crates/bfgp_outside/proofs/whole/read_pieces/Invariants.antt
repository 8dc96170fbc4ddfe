use Rattle.std.proofs.Common.{◌<◌, length, ◌+◌, ◌-◌, None}
use Rattle.bfgp_outside.specs.Shelf.{Told, CountsFaults, GoesOn, Asks}
use Rattle.bfgp_outside.proofs.Front.{IsFrontOf}
use Rattle.bfgp_outside.proofs.whole.read_pieces.Given as goal

abbrev pub invariant-loop-shelf : goal.invariant-loop-shelf
invariant-loop-shelf g l = record {
  room : 0 < length l.piece;
  front : Told (g.S.Shelf.files l.fn.shelf) l.name (IsFrontOf l.bytes);
  goes_on : GoesOn g.S.Shelf.files g.S.Shelf.faults g.S.Shelf.absences l.fn.shelf l.shelf;
  counts : CountsFaults g.S.Shelf.faults g.S.Shelf.absences l.fn.shelf l.shelf None;
  asks : Asks (g.S.Shelf.asked l.fn.shelf) (g.S.Shelf.asked l.shelf) l.name;
}

abbrev pub decreases-loop-shelf : goal.decreases-loop-shelf
decreases-loop-shelf g l = l.limit + 1 - length l.bytes
