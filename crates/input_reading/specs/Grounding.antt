-- What grounding an instance, and making the machine of its domain, may answer.
use Rattle.std.specs.Prelude.{◌≡◌, ℕ, ◌<◌, ◌≤◌, Result, Ok, Err}
use Rattle.ground_state.specs.declared.parts.TaskParts.{TaskParts}
use Rattle.ground_state.specs.declared.parts.InstanceParts.{InstanceParts}
use Rattle.ground_state.specs.declared.parts.TheConstants.{MAX_ATOMS}
use Rattle.ground_state.specs.declared.refusal.GroundRefusal.{GroundRefusal}
use Rattle.ground_state.specs.declared.refusal.GroundRefusal.TheVariants.{TooManyAtoms, OutOfMemory}
use Rattle.ground_state.specs.Ground.{Ground, ground_of, atoms_needed}
use Rattle.program_model.specs.declared.alphabet.TheConstants.{MAX_OPS}
use Rattle.pointer_machine.specs.declared.refusal.MachineRefusal.{MachineRefusal}
use Rattle.pointer_machine.specs.declared.refusal.MachineRefusal.TheVariants as made
use Rattle.pointer_machine.specs.Operations.{operation_count}

-- the ground atoms of an instance, or how many there are where that is too many
abbrev pub IsGroundReply : TaskParts → InstanceParts → Result Ground GroundRefusal → Type 0
IsGroundReply task instance (Ok table) = (table ≡ ground_of task instance) × (atoms_needed task instance ≤ MAX_ATOMS)
IsGroundReply task instance (Err (TooManyAtoms count)) = (count ≡ atoms_needed task instance) × (MAX_ATOMS < count)
IsGroundReply task instance (Err OutOfMemory) = Unit {0}

-- that there are few enough operations over so many pointers, or how many there are where that is too many
abbrev pub IsCountReply : TaskParts → ℕ → Result (Unit {0}) MachineRefusal → Type 0
IsCountReply task pointers (Ok _) = operation_count task pointers ≤ MAX_OPS
IsCountReply task pointers (Err (made.TooManyOps count)) = (count ≡ operation_count task pointers) × (MAX_OPS < count)
IsCountReply task pointers (Err made.OutOfMemory) = Unit {0}
