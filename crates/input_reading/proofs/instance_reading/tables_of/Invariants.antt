use Rattle.std.proofs.Common.{◌≡◌, length, take, All}
use Rattle.bfgp_outside.specs.Shelf.{Files, Knowing, GoesOn}
use Rattle.ground_state.specs.Action.{IsTableOf}
use Rattle.input_reading.specs.Asked.{AsksInTurn}
use Rattle.input_reading.proofs.Tables.{Continues}
use Rattle.input_reading.proofs.instance_reading.tables_of.Given as goal

abbrev pub invariant-loop-name : goal.invariant-loop-name
invariant-loop-name g l = record {
  goes_on : GoesOn g.S.Shelf.files g.S.Shelf.faults g.S.Shelf.absences l.fn.shelf l.shelf;
  reads : g.S.Shelf.faults l.shelf ≡ g.S.Shelf.faults l.fn.shelf;
  asked : AsksInTurn (g.S.Shelf.asked l.fn.shelf) (g.S.Shelf.asked l.shelf) (take l.name-index l.names);
  continues : Knowing (g.S.Shelf.files l.fn.shelf) (λ (files : Files). Continues files l.domain l.names l.name-index l.tables);
  fit : All (IsTableOf l.domain.task) l.tables;
  count : length l.tables ≡ l.name-index;
}
