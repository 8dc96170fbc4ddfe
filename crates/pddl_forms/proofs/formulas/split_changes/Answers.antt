use Rattle.pddl_forms.proofs.ConjunctionRules.{with_added, with_deleted}
use Rattle.pddl_forms.proofs.formulas.split_changes.Goals as goal

pub loop-change-preserved-in-Continue-1 : goal.loop-change-preserved-in-Continue-1
loop-change-preserved-in-Continue-1 c =
    rw c.in_ok-push-in-Added.ensures.ok (with_added c.loop-change.yielded _ _ _ _ c.loop-change.invariant c.in-Added.is)

pub loop-change-preserved : goal.loop-change-preserved
loop-change-preserved c =
    rw c.in_ok-push-in-Deleted.ensures.ok (with_deleted c.loop-change.yielded _ _ _ _ c.loop-change.invariant c.in-Deleted.is)
