-- The steps of a job, one after another. A step may come to a value, with which the job goes on, or to the line of the fault
-- that ends the job. What a step may come to is a relation on `Ok` of the value and `Err` of the line.
use Rattle.std.specs.Prelude.{◌≡◌, ℕ, List, Option, Result, Ok, Err}
use Rattle.input_reading.specs.declared.halt.Halt.{Halt}
use Rattle.input_reading.specs.declared.halt.Halt.TheVariants.{Refused, ReadFault, OutOfMemory}
use Rattle.input_reading.specs.declared.fault.Fault.{Fault}
use Rattle.input_reading.specs.Faults.{Tells}

infixl 10 ◌>>=◌
-- a step, and then what follows from its value, unless it ends the job
pub data ◌>>=◌ {A B : Type 0} (step : Result A (List ℕ) → Type 0) (next : A → Result B (List ℕ) → Type 0) : Result B (List ℕ) → Type 0 where
  goes_on : {a : A} {r : Result B (List ℕ)} → step (Ok a) → next a r → (step >>= next) r
  ends : {line : List ℕ} → step (Err line) → (step >>= next) (Err line)

-- the step that comes to this value alone
abbrev pub pure : {A : Type 0} → A → Result A (List ℕ) → Type 0
pure a result = result ≡ Ok a

-- a call that may answer only what a relation allows, as a step: a refusal ends the job with the line of its fault
abbrev pub or_tell : {A E : Type 0} → List ℕ → (E → Option Fault) → (Result A E → Type 0) → Result A (List ℕ) → Type 0
or_tell name fault_of Allowed (Ok a) = Allowed (Ok a)
or_tell {A} {E} name fault_of Allowed (Err line) = (refusal : E) × Allowed (Err refusal) × Tells fault_of name refusal line

-- what the code of a step answers is what the step may come to; a failed read and want of memory are answered apart
abbrev pub Gives : {A : Type 0} → (Result A (List ℕ) → Type 0) → Result A Halt → Type 0
Gives step (Ok a) = step (Ok a)
Gives step (Err (Refused line)) = step (Err line)
Gives step (Err ReadFault) = Unit {0}
Gives step (Err OutOfMemory) = Unit {0}
