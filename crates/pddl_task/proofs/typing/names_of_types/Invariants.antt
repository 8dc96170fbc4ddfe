use Rattle.std.proofs.Common.{◌≡◌, [], ◌∷◌, take, flat_map}
use Rattle.pddl_task.specs.Names.{with_names}
use Rattle.pddl_task.specs.Types.{root, mentioned}
use Rattle.pddl_task.proofs.typing.names_of_types.Given as goal

abbrev pub invariant-loop-place : goal.invariant-loop-place
invariant-loop-place l = l.names ≡ with_names (root ∷ []) (flat_map mentioned (take l.place l.types))
