use Rattle.std.proofs.Common.{◌≡◌, length, take}
use Rattle.ground_state.specs.declared.parts.TheConstants.{MAX_PARAMETERS}
use Rattle.pointer_machine.specs.Meaning.{objects_at}
use Rattle.pointer_machine.proofs.pointing.Pointing.objects_at.Given as goal

abbrev pub invariant-loop-place : goal.invariant-loop-place
invariant-loop-place l = (length l.objects ≡ MAX_PARAMETERS) × (take l.place l.objects ≡ objects_at l.self.pointers (take l.place l.args))
