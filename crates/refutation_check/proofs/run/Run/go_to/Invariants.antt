use Rattle.std.proofs.Common.{◌-◌, ◌≤◌}
use Rattle.refutation_check.specs.Inner.Runs.{StandsAt}
use Rattle.refutation_check.proofs.run.Run.go_to.Given as goal

abbrev pub invariant-loop-self : goal.invariant-loop-self
invariant-loop-self g l = record {
  stands : StandsAt (g.M.Machine.semantics l.machine) (g.M.Machine.belongs l.machine) l.program l.t l.self;
  before : l.self.steps ≤ l.steps;
}

abbrev pub decreases-loop-self : goal.decreases-loop-self
decreases-loop-self g l = l.steps - l.self.steps
