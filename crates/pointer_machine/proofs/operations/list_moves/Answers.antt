use Rattle.std.proofs.Common.{zero-add}
use Rattle.pointer_machine.specs.declared.form.Form.TheVariants.{Inc, Dec, Clear}
use Rattle.pointer_machine.proofs.Lists.{range_more}
use Rattle.pointer_machine.proofs.operations.list_moves.Goals as goal

pub incs-preserved : goal.incs-preserved
incs-preserved c = range_more Inc 0 c.incs.pointer _ _ _ _ (zero-add c.incs.pointer) c.incs.invariant c.in_ok-push.ensures.items

pub decs-preserved : goal.decs-preserved
decs-preserved c = range_more Dec 0 c.decs.pointer _ _ _ _ (zero-add c.decs.pointer) c.decs.invariant c.in_ok-push-2.ensures.items

pub clears-preserved : goal.clears-preserved
clears-preserved c = range_more Clear 0 c.clears.pointer _ _ _ _ (zero-add c.clears.pointer) c.clears.invariant c.in_ok-push-3.ensures.items
