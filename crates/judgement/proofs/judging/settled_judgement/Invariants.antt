use Rattle.std.proofs.Common.{drop}
use Rattle.judgement.proofs.StandingsKnown.{AreKnownBut}
use Rattle.judgement.proofs.judging.settled_judgement.Given as goal

abbrev pub invariant-loop-run : goal.invariant-loop-run
invariant-loop-run g l =
    AreKnownBut (g.M.Machine.semantics l.machine) l.program l.bounds.run (drop l.run-index l.runs) l.standings.items
