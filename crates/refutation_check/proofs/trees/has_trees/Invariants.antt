use Rattle.std.proofs.Common.{ℕ, ◌+◌, ◌<◌, get_or}
use Rattle.refutation_tree.specs.declared.evidence.Tree.{Tree}
use Rattle.refutation_check.specs.Inner.Judging.{HoldsAt}
use Rattle.refutation_check.specs.Walking.{IsWalk}
use Rattle.refutation_check.proofs.trees.has_trees.Given as goal

abbrev pub invariant-loop-place : goal.invariant-loop-place
invariant-loop-place g l = record {
  walk : IsWalk (g.M.Machine.semantics l.machine) (g.M.Machine.belongs l.machine) l.walk;
  held : (place : ℕ) (d : Tree) → place < l.place → HoldsAt (g.M.Machine.semantics l.machine) l.outcome (place + 1) (get_or l.trees place d);
}
