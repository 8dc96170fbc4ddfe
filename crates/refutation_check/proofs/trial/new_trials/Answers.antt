use Rattle.std.proofs.Common.{◌+◌, sym, subst}
use Rattle.refutation_check.specs.Inner.Runs.{AreTrials}
use Rattle.refutation_check.proofs.Instances.{trials_push}
use Rattle.refutation_check.proofs.trial.new_trials.Goals as goal

pub loop-t-preserved : goal.loop-t-preserved
loop-t-preserved g c =
    let belongs = g.M.Machine.belongs c.args.machine.now in
    subst (AreTrials belongs (c.loop-t.t + 1)) (sym c.in_ok-push.ensures.items)
    (trials_push belongs c.loop-t.t c.loop-t.trials.items c.in_ok-new.field-0 c.loop-t.invariant c.in_ok-new.ensures)
