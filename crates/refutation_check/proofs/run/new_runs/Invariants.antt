use Rattle.refutation_check.specs.Inner.Runs.{AreRuns}
use Rattle.refutation_check.proofs.run.new_runs.Given as goal

abbrev pub invariant-loop-t : goal.invariant-loop-t
invariant-loop-t g l = AreRuns (g.M.Machine.belongs l.machine) l.t l.runs.items
