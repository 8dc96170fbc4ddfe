use Rattle.std.proofs.Common.{◌≡◌, map, take}
use Rattle.pddl_task.specs.Parts.{lifted_of}
use Rattle.pddl_task.proofs.entries.lifted_atoms.Given as goal

abbrev pub invariant-loop-atom : goal.invariant-loop-atom
invariant-loop-atom l = l.lifted ≡ map (lifted_of l.scope.heads l.params l.scope.constants) (take l.atom-index l.atoms)
