use Rattle.std.proofs.Common.{◌+◌, sym, subst}
use Rattle.refutation_check.specs.Inner.Runs.{AreRuns}
use Rattle.refutation_check.proofs.Instances.{runs_push}
use Rattle.refutation_check.proofs.run.new_runs.Goals as goal

pub loop-t-preserved : goal.loop-t-preserved
loop-t-preserved g c =
    let belongs = g.M.Machine.belongs c.args.machine.now in
    subst (AreRuns belongs (c.loop-t.t + 1)) (sym c.in_ok-push.ensures.items)
    (runs_push belongs c.loop-t.t c.loop-t.runs.items c.in_ok-start.field-0 c.loop-t.invariant c.in_ok-start.ensures.value)
