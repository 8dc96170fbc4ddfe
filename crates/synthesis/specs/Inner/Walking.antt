-- The walk over the nodes of a size in preorder.
use Rattle.std.specs.Prelude.{◌≡◌, ℕ, List, ◌∷◌, ◌++◌, map}
use Rattle.refutation_tree.specs.declared.evidence.Mark.{Mark}
use Rattle.synthesis.specs.declared.nodes.Held.{Held}
use Rattle.synthesis.specs.Search.{Node, mark_of}
use Rattle.synthesis.specs.Inner.Nodes.{AreInPreorder}

-- of some nodes the first ones are marked, and the others are those of the remaining numbers
pub record MarksFirst (ops size : ℕ) (holds : List Held) (remaining : List ℕ) (nodes : List Node) (before after : List Mark) : Type 0 where
  pub first : List Node
  pub others : List Node
  pub all : nodes ≡ first ++ others
  pub marked : after ≡ before ++ map (λ (node : Node). mark_of node.state) first
  pub follow : AreInPreorder ops size holds remaining others

-- the marks of a node, and of all nodes below it, are added in preorder
abbrev pub AddsMarks : (ops size : ℕ) (holds : List Held) (number : ℕ) (before after : List Mark) → Type 0
AddsMarks ops size holds number before after = (remaining : List ℕ) (nodes : List Node) → AreInPreorder ops size holds (number ∷ remaining) nodes → MarksFirst ops size holds remaining nodes before after
