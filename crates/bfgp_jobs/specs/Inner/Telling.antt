-- What is told of the answer file of a check.
use Rattle.std.specs.Prelude.{ℕ, ◌↔◌, Bool, IsTrue, List, Result, Ok}
use Rattle.pointer_machine.specs.Machine.{MachineParts}
use Rattle.bfgp_jobs.specs.Due.{IsAcceptedDocument}

-- the answer says whether the bytes that the file's step comes to are an accepted document
pub record TellsAccepted (machine : MachineParts) (lines : ℕ) (file : Result (List ℕ) (List ℕ) → Type 0) (accepted : Bool) : Type 0 where
  pub bytes : List ℕ
  pub read : file (Ok bytes)
  pub exactly : IsTrue accepted ↔ IsAcceptedDocument machine lines bytes
