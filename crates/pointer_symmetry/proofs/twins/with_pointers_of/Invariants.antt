use Rattle.pointer_symmetry.specs.Used.{has}
use Rattle.pointer_symmetry.proofs.Walks.{Holds}
use Rattle.pointer_symmetry.proofs.twins.with_pointers_of.Given as goal

abbrev pub invariant-loop-place : goal.invariant-loop-place
invariant-loop-place g l = Holds (has l.all) (has l.set) ((g.M.Machine.semantics l.machine).pointers_of l.op) l.place
