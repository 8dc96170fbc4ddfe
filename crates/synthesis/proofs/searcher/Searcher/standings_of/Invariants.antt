use Rattle.std.proofs.Common.{◌≡◌, map, take}
use Rattle.judgement.specs.Judging.{run_standing}
use Rattle.synthesis.proofs.searcher.Searcher.standings_of.Given as goal

abbrev pub invariant-loop-run : goal.invariant-loop-run
invariant-loop-run g l = l.standings.items ≡ map (run_standing (g.M.Machine.semantics l.self.machine.now) l.lines) (take l.run-index l.runs)
