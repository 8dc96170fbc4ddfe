-- What reading a file through tells. The bytes that come are those that reading it whole gives.
use Rattle.std.specs.Prelude.{◌≡◌, ℕ, ◌≤◌, List, length, Option, Some, None, Result, Ok, Err}
use Rattle.bfgp_outside.specs.Shelf.{Files, Told}
use Rattle.bfgp_outside.specs.Whole.{whole_of}
use Rattle.bfgp_outside.specs.declared.shelf.ShelfFault.{ShelfFault}
use Rattle.bfgp_outside.specs.declared.shelf.ShelfFault.TheVariants as faults
use Rattle.bfgp_outside.specs.declared.whole.ReadRefusal.{ReadRefusal}
use Rattle.bfgp_outside.specs.declared.whole.ReadRefusal.TheVariants as reads
use Rattle.piece_reading.specs.Taker.{Took}
use Rattle.piece_reading.specs.declared.through.ThroughRefusal.{ThroughRefusal}
use Rattle.piece_reading.specs.declared.through.ThroughRefusal.TheVariants.{Absent, Failed, TooLong}

-- bytes within the limit came to a taker, and where the shelf tells its files they are the file, whole
pub record TookFile {T : Type 0} (stands_for : T → List ℕ → Type 0) (old new : T) (told : Option Files) (name : List ℕ) (limit : ℕ) : Type 0 where
  pub bytes : List ℕ
  pub took : Took stands_for old new bytes
  pub within : length bytes ≤ limit
  pub whole : Told told name (λ held. whole_of held limit ≡ Ok bytes)

-- a refusal that speaks of the file is the one that reading it whole has; a fault may come at any file
abbrev pub RefusesAs : ThroughRefusal → Result (List ℕ) ReadRefusal → Type 0
RefusesAs Absent whole = whole ≡ Err reads.Absent
RefusesAs TooLong whole = whole ≡ Err reads.TooLong
RefusesAs Failed whole = Unit {0}

-- the fault of the shelf that an answer tells, if it tells one
abbrev pub fault_told : {T : Type 0} → Result T ThroughRefusal → Option ShelfFault
fault_told (Ok value) = None
fault_told (Err Absent) = Some faults.Absent
fault_told (Err Failed) = Some faults.Failed
fault_told (Err TooLong) = None

-- the refusal that hands a fault of the shelf on
abbrev pub refusal_of : ShelfFault → ThroughRefusal
refusal_of faults.Absent = Absent
refusal_of faults.Failed = Failed
