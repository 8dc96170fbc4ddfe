-- The number that a process ends with.
use Rattle.std.specs.Prelude.{◌≡◌, ℕ}
use Rattle.std.specs.Process.{exit_status}
use Rattle.std.specs.declared.process.ExitCode.{ExitCode}
use Rattle.std.specs.IoError.{error_kind}
use Rattle.std.specs.declared.io.Error.{Error}
use Rattle.std.specs.declared.io.ErrorKind.{ErrorKind}
use Rattle.std.specs.declared.io.ErrorKind.TheVariants as kinds
use Rattle.bfgp_jobs.specs.declared.status.Status.{Status}
use Rattle.bfgp_jobs.specs.declared.status.Status.TheVariants.{OutOfMemory}
use Rattle.bfgp_jobs.specs.Exit.{exit_number}
use Rattle.bfgp_jobs.specs.declared.process.TheConstants.{NO_WORDS}

-- the process ends with the number of a status of which this is so
abbrev pub EndsWith : ExitCode → (Status → Type 0) → Type 0
EndsWith code P = (status : Status) × (exit_status code ≡ exit_number status) × P status

-- the number where the words of the process could not be had: for want of memory, or as they are no text
abbrev pub number_of_kind : ErrorKind → ℕ
number_of_kind kinds.OutOfMemory = exit_number OutOfMemory
number_of_kind _ = NO_WORDS

abbrev pub number_without_words : Error → ℕ
number_without_words error = number_of_kind (error_kind error)
