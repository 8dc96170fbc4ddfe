use Rattle.std.proofs.Common.{◌≡◌, ℕ, List, ◌++◌, length}
use Rattle.document_check.specs.Standing.{IsReading}
use Rattle.document_check.proofs.Completing.{IsTaken}
use Rattle.document_check.proofs.reading.Reading.take.Given as goal

abbrev pub invariant-loop-front : goal.invariant-loop-front
invariant-loop-front g l = record {
  lines : l.self.lines ≡ l.fn.self.lines;
  reading : IsReading (g.M.Machine.semantics l.machine) (g.M.Machine.belongs l.machine) l.names l.self;
  taken : IsTaken (g.M.Machine.semantics l.machine) l.names l.fn.self l.self l.piece l.rest;
}

abbrev pub decreases-loop-front : goal.decreases-loop-front
decreases-loop-front g l = length l.rest
