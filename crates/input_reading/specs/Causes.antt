-- Why a job ended before its last step.
use Rattle.std.specs.Prelude.{◌≡◌, ℕ, List, Bool, true, false, Result, Ok, Err}
use Rattle.bfgp_outside.specs.Causes.{Rose}
use Rattle.input_reading.specs.declared.fault.Fault.{Fault}
use Rattle.input_reading.specs.declared.fault.Fault.TheVariants as faults
use Rattle.input_reading.specs.declared.halt.Halt.{Halt}
use Rattle.input_reading.specs.declared.halt.Halt.TheVariants.{Refused, ReadFault, OutOfMemory}
use Rattle.input_reading.specs.Faults.{fault_line}

-- the line tells a fault of a file; that a file is absent it tells only where the count of absences rose
pub record TellsFault (absences absences_now : ℕ) (told : List ℕ) : Type 0 where
  pub name : List ℕ
  pub fault : Fault
  pub is : told ≡ fault_line name fault
  pub absent : fault ≡ faults.Absent → Rose absences absences_now

-- a job that ended at a line: it tells a fault
abbrev pub HaltCause : (absences absences_now : ℕ) → Halt → Type 0
HaltCause absences absences_now (Refused line) = TellsFault absences absences_now line
HaltCause absences absences_now ReadFault = Unit {0}
HaltCause absences absences_now OutOfMemory = Unit {0}

-- whether a failed read is answered
abbrev pub is_read_fault : {A : Type 0} → Result A Halt → Bool
is_read_fault (Ok a) = false
is_read_fault (Err (Refused line)) = false
is_read_fault (Err ReadFault) = true
is_read_fault (Err OutOfMemory) = false
