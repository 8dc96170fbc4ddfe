-- What reading a whole file gives.
use Rattle.std.specs.Prelude.{◌≡◌, ℕ, List, length, Option, Some, None, Result, Ok, Err, nat_lt, if◌then◌else◌}
use Rattle.bfgp_outside.specs.declared.shelf.ShelfFault.{ShelfFault}
use Rattle.bfgp_outside.specs.declared.shelf.ShelfFault.TheVariants.{Absent as AbsentFault, Failed as FailedFault}
use Rattle.bfgp_outside.specs.declared.whole.ReadRefusal.{ReadRefusal}
use Rattle.bfgp_outside.specs.declared.whole.ReadRefusal.TheVariants.{Absent, Failed, TooLong, OutOfMemory}

-- the bytes of a file that is held and has at most as many as the limit
abbrev pub whole_of : Option (List ℕ) → ℕ → Result (List ℕ) ReadRefusal
whole_of None limit = Err Absent
whole_of (Some bytes) limit = if nat_lt limit (length bytes) then Err TooLong else Ok bytes

-- a refusal that speaks of the file is the one that the file has; a fault and want of memory may come at any file
abbrev pub RefusesAs : ReadRefusal → Result (List ℕ) ReadRefusal → Type 0
RefusesAs Absent whole = whole ≡ Err Absent
RefusesAs TooLong whole = whole ≡ Err TooLong
RefusesAs Failed whole = Unit {0}
RefusesAs OutOfMemory whole = Unit {0}

-- the fault of the shelf that an answer tells, if it tells one
abbrev pub fault_told : {T : Type 0} → Result T ReadRefusal → Option ShelfFault
fault_told (Ok value) = None
fault_told (Err Absent) = Some AbsentFault
fault_told (Err Failed) = Some FailedFault
fault_told (Err TooLong) = None
fault_told (Err OutOfMemory) = None

-- the refusal that hands a fault of the shelf on
abbrev pub refusal_of : ShelfFault → ReadRefusal
refusal_of AbsentFault = Absent
refusal_of FailedFault = Failed
