-- What was written to a sink: all of some bytes, a front of them, or nothing.
use Rattle.std.specs.Prelude.{◌≡◌, ℕ, List, ◌++◌, Option, Result, OnOk, OnErr}
use Rattle.bfgp_outside.specs.Causes.{CountsFailure}
pub use Rattle.std.specs.Io.KnownBytes.{Keeps, Appends}

-- some front of the bytes was appended, where the sink tells what was written
pub record AppendsPrefix (old new : Option (List ℕ)) (bytes : List ℕ) : Type 0 where
  pub front : List ℕ
  pub rest : List ℕ
  pub split : front ++ rest ≡ bytes
  pub appended : Appends old new front

-- a call put these bytes: all of them with Ok, a front of them with an error, which comes only where the count of faults rose;
-- no fault is passed over
pub record Puts {S T E : Type 0} (written : S → Option (List ℕ)) (faults : S → ℕ) (old new : S) (result : Result T E) (bytes : List ℕ) : Type 0 where
  pub ok : OnOk result (Appends (written old) (written new) bytes)
  pub err : OnErr result (AppendsPrefix (written old) (written new) bytes)
  pub cause : CountsFailure (faults old) (faults new) result
