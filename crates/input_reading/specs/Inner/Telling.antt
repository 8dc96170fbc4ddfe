-- What telling a fault comes to.
use Rattle.std.specs.Prelude.{◌≡◌, ℕ, List, Option, Some, None}
use Rattle.input_reading.specs.declared.fault.Fault.{Fault}
use Rattle.input_reading.specs.declared.halt.Halt.{Halt}
use Rattle.input_reading.specs.declared.halt.Halt.TheVariants.{Refused, ReadFault, OutOfMemory}
use Rattle.input_reading.specs.Faults.{fault_line}

-- the line that tells the fault, or want of memory
abbrev pub IsTelling : List ℕ → Fault → Halt → Type 0
IsTelling name fault (Refused line) = line ≡ fault_line name fault
IsTelling name fault ReadFault = ⊥
IsTelling name fault OutOfMemory = Unit {0}

-- what a refusal comes to, by its fault: the line that tells it; a refusal that is no fault is want of memory
abbrev pub IsRefusing : List ℕ → Option Fault → Halt → Type 0
IsRefusing name (Some fault) halt = IsTelling name fault halt
IsRefusing name None halt = halt ≡ OutOfMemory
