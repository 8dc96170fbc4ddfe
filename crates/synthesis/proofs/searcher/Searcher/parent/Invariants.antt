use Rattle.std.proofs.Common.{◌≡◌, map, take, length}
use Rattle.std.specs.Prelude.{IfSome}
use Rattle.judgement.specs.Judging.{run_standing}
use Rattle.waiting_programs.specs.Programs.{kept_at}
use Rattle.synthesis.proofs.searcher.Searcher.parent.Given as goal

abbrev pub invariant-loop-t : goal.invariant-loop-t
invariant-loop-t g l = IfSome (kept_at l.programs.kept l.best.id) (λ waiting. l.standings.items ≡ map (run_standing (g.M.Machine.semantics l.self.machine.now) (length waiting.program)) (take l.t waiting.runs))
