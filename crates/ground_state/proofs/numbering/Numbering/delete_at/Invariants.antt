use Rattle.std.proofs.Common.{◌≡◌, map, take}
use Rattle.ground_state.specs.State.{those_of, without_atoms}
use Rattle.ground_state.specs.Action.{grounded}
use Rattle.ground_state.proofs.numbering.Numbering.delete_at.Given as goal

abbrev pub invariant-loop-atom : goal.invariant-loop-atom
invariant-loop-atom l = l.state ≡ without_atoms l.fn.state (those_of l.self.0 l.self.1 (map (grounded l.args) (take l.atom-index l.atoms)))
