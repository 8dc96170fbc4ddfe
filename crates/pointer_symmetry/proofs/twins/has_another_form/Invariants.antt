use Rattle.pointer_symmetry.specs.Used.{has}
use Rattle.pointer_symmetry.proofs.Walks.{Holds, Keeps}
use Rattle.pointer_symmetry.proofs.twins.has_another_form.Given as goal

abbrev pub invariant-loop-place : goal.invariant-loop-place
invariant-loop-place g l = record {
  holds : Holds (has l.taken) (has l.used) ((g.M.Machine.semantics l.machine).pointers_of l.op) l.place;
  keeps : Keeps (has l.used) (g.M.Machine.semantics l.machine).pointers ((g.M.Machine.semantics l.machine).pointers_of l.op) l.place;
}
