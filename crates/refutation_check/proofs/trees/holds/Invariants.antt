use Rattle.std.proofs.Common.{◌≡◌, Some, drop}
use Rattle.std.specs.Prelude.{◌↔◌}
use Rattle.program_model.specs.Program.{empty}
use Rattle.refutation_check.specs.Walking.{AllStand, IsWalk, pending, rooted}
use Rattle.refutation_check.proofs.trees.holds.Given as goal

abbrev pub invariant-loop-mark : goal.invariant-loop-mark
invariant-loop-mark g l = record {
  walk : IsWalk (g.M.Machine.semantics l.machine) (g.M.Machine.belongs l.machine) l.walk;
  on : AllStand (g.M.Machine.semantics l.machine) l.covering (rooted (Some (empty l.tree.size))) l.tree.marks ↔ AllStand (g.M.Machine.semantics l.machine) l.walk.covering (pending (g.M.Machine.semantics l.machine) l.walk) (drop l.mark-index l.mark-items);
  items : l.mark-items ≡ l.tree.marks;
}
