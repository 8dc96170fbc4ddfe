use Rattle.std.proofs.Common.{ℕ, List, ◌++◌, ◌∷◌, ◌-◌, length}
use Rattle.std.specs.List.{range_with_len}
use Rattle.synthesis.specs.Search.{Node}
use Rattle.synthesis.specs.Inner.Nodes.{AreInPreorder}
use Rattle.synthesis.specs.Inner.Walking.{MarksFirst}
use Rattle.synthesis.proofs.walk.+add_marks.Given as goal

abbrev pub decreases-add_marks : goal.decreases-add_marks
decreases-add_marks l = length l.held.now - l.number

abbrev pub invariant-loop-child : goal.invariant-loop-child
invariant-loop-child l = (remaining : List ℕ) (nodes : List Node) → AreInPreorder l.ops l.size l.held (l.number ∷ remaining) nodes → MarksFirst l.ops l.size l.held (range_with_len l.child (l.child-end - l.child) ++ remaining) nodes l.fn.marks.items l.marks.items
