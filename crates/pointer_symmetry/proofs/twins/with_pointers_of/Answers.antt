use Rattle.pointer_symmetry.specs.Used.{has}
use Rattle.pointer_symmetry.proofs.Walks.{holds_more}
use Rattle.pointer_symmetry.proofs.twins.with_pointers_of.Goals as goal

pub loop-place-preserved : goal.loop-place-preserved
loop-place-preserved g c = holds_more (has c.loop-place.all) _ (has c.args.set) ((g.M.Machine.semantics c.args.machine.now).pointers_of c.args.op) c.loop-place.place _ c.pointer_at.ensures.value c.loop-place.invariant c.with-all.ensures
