-- What `synth` writes, `check` accepts.
use Rattle.std.specs.Prelude.{◌≡◌, ℕ, List, All, Option, Some}
use Rattle.bfgp_outside.specs.Shelf.{Files}
use Rattle.bfgp_outside.specs.Sink.{Appends}
use Rattle.command_words.specs.declared.job.Job.TheVariants.{Synth, Check}
use Rattle.command_words.specs.declared.job.SynthJob.{SynthJob}
use Rattle.command_words.specs.declared.job.CheckJob.{CheckJob}
use Rattle.command_words.specs.Words.{JobOf, names_of}
use Rattle.input_reading.specs.Posed.{Poses}
use Rattle.bfgp_jobs.specs.declared.status.Status.{Status}
use Rattle.bfgp_jobs.specs.Due.{Due, IsAcceptedDocument, accepted_reply}
use Rattle.bfgp_jobs.specs.Headline.{posed_parts}
use Rattle.bfgp_jobs.specs.Answers.{IsAnswerStatus}

-- the check of the file of a name, for the same pointers, lines and inputs as a search
abbrev pub check_of : SynthJob → List ℕ → CheckJob
check_of job name = record { pointers = job.pointers; lines = job.bounds.lines; answer = name; inputs = job.inputs }

-- the files of a search's inputs are as they were, and the file of a name holds these bytes
pub record HoldsWritten (job : SynthJob) (files : Files) (bytes name : List ℕ) (later : Files) : Type 0 where
  pub kept : All (λ input. later input ≡ files input) (names_of job.inputs)
  pub holds : later name ≡ Some bytes

-- the bytes that were written are due, and they are the document of an answer that is accepted; so it is due that `check` answers
-- `accepted` for a file that holds them, and ends with 0
pub record WritesAccepted (words : List (List ℕ)) (job : SynthJob) (files : Files) (status : Status) (old new : Option (List ℕ)) : Type 0 where
  pub bytes : List ℕ
  pub appended : Appends old new bytes
  pub due : Due words files (record { status = status; text = bytes })
  pub posed : Poses job.inputs files
  pub is_accepted : IsAcceptedDocument (posed_parts posed.task posed.instances job.pointers) job.bounds.lines bytes
  pub checked : (name : List ℕ) (check_words : List (List ℕ)) (later : Files) → JobOf check_words (Check (check_of job name)) → HoldsWritten job files bytes name later → Due check_words later accepted_reply

-- where the words are those of a search, and the status is that of an answer, this is so of what was written
abbrev pub CheckAccepts : List (List ℕ) → Files → Status → Option (List ℕ) → Option (List ℕ) → Type 0
CheckAccepts words files status old new = (job : SynthJob) → JobOf words (Synth job) → IsAnswerStatus status → WritesAccepted words job files status old new
