-- The nodes that are left so far are tied, and each but the next one to be looked at is held or has children.
use Rattle.std.proofs.Common.{◌≡◌, ℕ, ◌+◌, ◌≤◌, Option, is_some, cond}
use Rattle.slab.specs.Slab.{Slab, slab_len}
use Rattle.partial_program.specs.declared.node.Node.{Node}
use Rattle.partial_program.specs.Inner.Nodes.{IsTied, IsSettledBut, IsLeftOf}
use Rattle.partial_program.proofs.idle.free_idle.Given as goal

pub record Frees (first nodes : Slab Node) (next : Option ℕ) : Type 0 where
  pub tied : IsTied nodes.slots
  pub settled : IsSettledBut nodes.slots next
  pub left : IsLeftOf first.slots nodes.slots
  pub len : slab_len nodes ≤ slab_len first
  pub capacity : nodes.capacity ≡ first.capacity

abbrev pub invariant-loop-next : goal.invariant-loop-next
invariant-loop-next l = Frees l.fn.nodes l.nodes l.next

abbrev pub decreases-loop-next : goal.decreases-loop-next
decreases-loop-next l = slab_len l.nodes + cond (is_some l.next) 1 0
