use Rattle.std.proofs.Common.{◌≡◌, length, take, map}
use Rattle.ground_state.specs.declared.parts.TheConstants.{MAX_PARAMETERS}
use Rattle.program_model.specs.Renaming.{image}
use Rattle.pointer_machine.proofs.renamed.renamed_args.Given as goal

abbrev pub invariant-loop-place : goal.invariant-loop-place
invariant-loop-place l = (length l.images ≡ MAX_PARAMETERS) × (take l.place l.images ≡ map (image l.by) (take l.place l.pointers))
