use Rattle.std.proofs.Common.{◌≡◌, ℕ, take}
use Rattle.std.specs.List.{list_any}
use Rattle.pointer_symmetry.specs.Used.{has, names}
use Rattle.pointer_symmetry.proofs.twins.used_by.Given as goal

abbrev pub invariant-loop-line : goal.invariant-loop-line
invariant-loop-line g l = (pointer : ℕ) → has l.used pointer ≡ list_any (names (g.M.Machine.semantics l.machine) pointer) (take l.line l.partial)
