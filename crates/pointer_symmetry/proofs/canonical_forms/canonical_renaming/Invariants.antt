use Rattle.std.proofs.Common.{◌+◌, length}
use Rattle.pointer_symmetry.specs.Used.{has}
use Rattle.pointer_symmetry.proofs.Numberings.{HasNumbered}
use Rattle.pointer_symmetry.proofs.canonical_forms.canonical_renaming.Given as goal

abbrev pub invariant-loop-place : goal.invariant-loop-place
invariant-loop-place g l = HasNumbered (has l.used) (g.M.Machine.semantics l.machine).pointers ((g.M.Machine.semantics l.machine).pointers_of l.op) l.place l.numbering

abbrev pub invariant-loop-pointer : goal.invariant-loop-pointer
invariant-loop-pointer g l = HasNumbered (has l.used) (g.M.Machine.semantics l.machine).pointers ((g.M.Machine.semantics l.machine).pointers_of l.op) (length ((g.M.Machine.semantics l.machine).pointers_of l.op) + l.pointer) l.numbering
