use Rattle.pointer_machine.proofs.Lists.{pairs_more}
use Rattle.pointer_machine.proofs.operations.all_pairs.Goals as goal

pub loop-pointer-preserved : goal.loop-pointer-preserved
loop-pointer-preserved c = pairs_more c.args.pointers c.loop-pointer.pointer _ _ c.loop-pointer.invariant c.in_ok-add_pairs_of.ensures
