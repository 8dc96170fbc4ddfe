-- What is to be written, and the status to end with.
use Rattle.std.specs.Prelude.{ℕ, List}
use Rattle.bfgp_jobs.specs.declared.status.Status.{Status}

pub record Reply : Type 0 where
  pub status : Status
  pub text : List ℕ
