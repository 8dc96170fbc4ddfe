-- Steps of a job, one after another, as the code answers them.
use Rattle.std.proofs.Common.{◌≡◌, ℕ, ◌≤◌, List, Bool, Option, Some, None, Result, Ok, Err, subst, arith}
use Rattle.bfgp_outside.specs.Shelf.{Files, Knowing}
use Rattle.bfgp_outside.specs.Causes.{Rose, RoseIf}
use Rattle.input_reading.specs.declared.halt.Halt.{Halt}
use Rattle.input_reading.specs.declared.halt.Halt.TheVariants.{Refused, ReadFault, OutOfMemory}
use Rattle.input_reading.specs.declared.fault.Fault.{Fault}
use Rattle.input_reading.specs.declared.fault.Fault.TheVariants as faults
use Rattle.input_reading.specs.Inner.Telling.{IsTelling}
use Rattle.input_reading.specs.Steps.{◌>>=◌, goes_on, ends, Gives}
use Rattle.input_reading.specs.Causes.{HaltCause, is_read_fault}
use Rattle.input_reading.specs.Inner.Causes.{TellsOther}

-- a step that came to a value, and then what follows from it
pub then_next : {A B : Type 0} (step : Result A (List ℕ) → Type 0) (next : A → Result B (List ℕ) → Type 0) (a : A) (r : Result B Halt) → step (Ok a) → Gives (next a) r → Gives (step >>= next) r
then_next step next a (Ok b) here after = goes_on here after
then_next step next a (Err (Refused line)) here after = goes_on here after
then_next step next a (Err ReadFault) here after = tt
then_next step next a (Err OutOfMemory) here after = tt

-- a step that ended the job
pub then_end : {A B : Type 0} (step : Result A (List ℕ) → Type 0) (next : A → Result B (List ℕ) → Type 0) (halt : Halt) → Gives step (Err halt) → Gives {A = B} (step >>= next) (Err halt)
then_end step next (Refused line) here = ends here
then_end step next ReadFault here = tt
then_end step next OutOfMemory here = tt

-- from facts about the files to another, where the shelf tells
pub knowing : (told : Option Files) (P Q : Files → Type 0) → ((files : Files) → P files → Q files) → Knowing told P → Knowing told Q
knowing (Some files) P Q goes p = goes files p
knowing None P Q goes p = tt

-- what holds of all files
pub knowing_always : (told : Option Files) (P : Files → Type 0) → ((files : Files) → P files) → Knowing told P
knowing_always None P all = tt
knowing_always (Some files) P all = all files

-- a shelf that tells what it told before
pub knowing_same : {told later : Option Files} (P : Files → Type 0) → later ≡ told → Knowing later P → Knowing told P
knowing_same P kept known = subst (λ (o : Option Files). Knowing o P) kept known

pub knowing_both : (told : Option Files) (P Q R : Files → Type 0) → ((files : Files) → P files → Q files → R files) → Knowing told P → Knowing told Q → Knowing told R
knowing_both (Some files) P Q R goes p q = goes files p q
knowing_both None P Q R goes p q = tt

-- the same of steps over the files, where the shelf tells them
pub known_next : {A B : Type 0} (told : Option Files) (step : Files → Result A (List ℕ) → Type 0) (next : Files → A → Result B (List ℕ) → Type 0) (a : A) (r : Result B Halt) → Knowing told (λ files. Gives (step files) (Ok a)) → Knowing told (λ files. Gives (next files a) r) → Knowing told (λ files. Gives (step files >>= next files) r)
known_next told step next a r = knowing_both told (λ files. Gives (step files) (Ok a)) (λ files. Gives (next files a) r) (λ files. Gives (step files >>= next files) r) (λ files here after. then_next (step files) (next files) a r here after)

pub known_end : {A B : Type 0} (told : Option Files) (step : Files → Result A (List ℕ) → Type 0) (next : Files → A → Result B (List ℕ) → Type 0) (halt : Halt) → Knowing told (λ files. Gives (step files) (Err halt)) → Knowing told (λ files. Gives {A = B} (step files >>= next files) (Err halt))
known_end {A} {B} told step next halt = knowing told (λ files. Gives (step files) (Err halt)) (λ files. Gives {A = B} (step files >>= next files) (Err halt)) (λ files here. then_end (step files) (next files) halt here)

-- what ended the job without a read has its cause, whatever the counts
pub other_cause : (absences absences_now : ℕ) (halt : Halt) → TellsOther halt → HaltCause absences absences_now halt
other_cause absences absences_now (Refused line) tells = record { name = tells.0; fault = tells.1; is = tells.2; absent = λ is. absurd (tells.3 is) }
other_cause absences absences_now ReadFault tells = tt
other_cause absences absences_now OutOfMemory tells = tt

-- a count that rose since later than before rose since before
pub rose_since : (before later now : ℕ) → before ≤ later → Rose later now → Rose before now
rose_since before later now le rose = omega (arith, le, rose)

-- a cause since a later call is one since an earlier
pub cause_since : (absences absences_later absences_now : ℕ) (halt : Halt) → absences ≤ absences_later → HaltCause absences_later absences_now halt → HaltCause absences absences_now halt
cause_since absences absences_later absences_now (Refused line) a tells = record { name = tells.name; fault = tells.fault; is = tells.is; absent = λ is. rose_since absences absences_later absences_now a (tells.absent is) }
cause_since absences absences_later absences_now ReadFault a tells = tt
cause_since absences absences_later absences_now OutOfMemory a tells = tt

-- a fault that is told has its cause, where that of an absent file has one
pub telling_cause : (absences absences_now : ℕ) (name : List ℕ) (fault : Fault) (halt : Halt) → IsTelling name fault halt → (fault ≡ faults.Absent → Rose absences absences_now) → HaltCause absences absences_now halt
telling_cause absences absences_now name fault (Refused line) tells rose = record { name = name; fault = fault; is = tells; absent = rose }
telling_cause absences absences_now name fault ReadFault tells rose = absurd tells
telling_cause absences absences_now name fault OutOfMemory tells rose = tt

-- a fault that is told is no failed read
pub telling_reads : (A : Type 0) (name : List ℕ) (fault : Fault) (halt : Halt) (reads reads_now : ℕ) → IsTelling name fault halt → reads_now ≡ reads → RoseIf (is_read_fault {A = A} (Err halt)) reads reads_now
telling_reads A name fault (Refused line) reads reads_now tells kept = kept
telling_reads A name fault ReadFault reads reads_now tells kept = absurd tells
telling_reads A name fault OutOfMemory reads reads_now tells kept = kept

-- nor is what ended the job without a read
pub other_reads : (A : Type 0) (halt : Halt) (reads reads_now : ℕ) → TellsOther halt → reads_now ≡ reads → RoseIf (is_read_fault {A = A} (Err halt)) reads reads_now
other_reads A (Refused line) reads reads_now tells kept = kept
other_reads A ReadFault reads reads_now tells kept = absurd tells
other_reads A OutOfMemory reads reads_now tells kept = kept

-- failed reads since calls that had none
pub reads_since : (failed : Bool) (reads later now : ℕ) → later ≡ reads → RoseIf failed later now → RoseIf failed reads now
reads_since failed reads later now kept rose = subst (λ (n : ℕ). RoseIf failed n now) kept rose
