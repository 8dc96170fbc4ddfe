-- Why a step that reads no file ended a job.
use Rattle.std.specs.Prelude.{◌≡◌, ◌≢◌, ℕ, List}
use Rattle.input_reading.specs.declared.fault.Fault.{Fault}
use Rattle.input_reading.specs.declared.fault.Fault.TheVariants as faults
use Rattle.input_reading.specs.declared.halt.Halt.{Halt}
use Rattle.input_reading.specs.declared.halt.Halt.TheVariants.{Refused, ReadFault, OutOfMemory}
use Rattle.input_reading.specs.Faults.{fault_line}

-- at another fault than that a file is absent, or for want of memory
abbrev pub TellsOther : Halt → Type 0
TellsOther (Refused line) = (name : List ℕ) × (fault : Fault) × (line ≡ fault_line name fault) × (fault ≢ faults.Absent)
TellsOther ReadFault = ⊥
TellsOther OutOfMemory = Unit {0}
