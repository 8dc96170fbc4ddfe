use Rattle.refutation_check.specs.Inner.Runs.{AreTrials}
use Rattle.refutation_check.proofs.trial.new_trials.Given as goal

abbrev pub invariant-loop-t : goal.invariant-loop-t
invariant-loop-t g l = AreTrials (g.M.Machine.belongs l.machine) l.t l.trials.items
