-- The reply to the words of a command, before and after it is written.
use Rattle.std.specs.Prelude.{◌≡◌, ◌≢◌, ℕ, List, Bool, true, false, Option, Result, Ok, Err, IfOk, IfErr}
use Rattle.bfgp_outside.specs.Shelf.{Files}
use Rattle.bfgp_outside.specs.Sink.{Appends, AppendsPrefix}
use Rattle.command_words.specs.declared.job.Job.{Job}
use Rattle.command_words.specs.declared.job.Job.TheVariants.{Synth, Check, Run, Gen}
use Rattle.command_words.specs.Words.{JobOf}
use Rattle.input_reading.specs.declared.halt.Halt.{Halt}
use Rattle.input_reading.specs.declared.halt.Halt.TheVariants as halts
use Rattle.input_reading.specs.Steps.{Gives}
use Rattle.bfgp_jobs.specs.declared.status.Status.{Status}
use Rattle.bfgp_jobs.specs.declared.status.Status.TheVariants.{Done, No, Usage, Input, SpentExpansions, SpentRun, ReadFault, WriteFault, OutOfMemory}
use Rattle.bfgp_jobs.specs.declared.replying.NoReply.{NoReply}
use Rattle.bfgp_jobs.specs.declared.replying.NoReply.TheVariants as none
use Rattle.bfgp_jobs.specs.Reply.{Reply}
use Rattle.bfgp_jobs.specs.Due.{Due, usage_reply, fault_reply, gen_due}
use Rattle.bfgp_jobs.specs.Answers.{IsAnswerStatus}

-- the statuses of replies: an answer, the usage text or the line of a fault
abbrev pub IsReplyStatus : Status → Type 0
IsReplyStatus Done = Unit {0}
IsReplyStatus No = Unit {0}
IsReplyStatus Usage = Unit {0}
IsReplyStatus Input = Unit {0}
IsReplyStatus SpentExpansions = Unit {0}
IsReplyStatus SpentRun = Unit {0}
IsReplyStatus ReadFault = ⊥
IsReplyStatus WriteFault = ⊥
IsReplyStatus OutOfMemory = ⊥

-- what a job comes to, as a reply: a fault ends it with the reply that tells it
abbrev pub told : Result Reply Halt → Result Reply NoReply
told (Ok reply) = Ok reply
told (Err (halts.Refused line)) = Ok (fault_reply line)
told (Err halts.ReadFault) = Err none.ReadFault
told (Err halts.OutOfMemory) = Err none.OutOfMemory

-- whether a file could not be read
abbrev pub lacks_file : Result Reply NoReply → Bool
lacks_file (Ok reply) = false
lacks_file (Err none.ReadFault) = true
lacks_file (Err none.OutOfMemory) = false

-- where the words are no job the reply is the usage text, or memory was wanting
abbrev pub IsUsageReply : Result Reply NoReply → Type 0
IsUsageReply (Ok reply) = reply ≡ usage_reply
IsUsageReply (Err none.ReadFault) = ⊥
IsUsageReply (Err none.OutOfMemory) = Unit {0}

-- the usage text is the reply exactly where the words are no job
pub record RepliesUsage (words : List (List ℕ)) (result : Result Reply NoReply) : Type 0 where
  pub no_job : ((job : Job) → JobOf words job → ⊥) → IsUsageReply result
  pub a_job : (job : Job) → JobOf words job → IfOk result (λ reply. reply.status ≢ Usage)

-- a search over a family comes to what is due, and ends before its answer for want of memory alone, whatever the shelf tells
abbrev pub ComesWithoutFiles : Job → Result Reply Halt → Type 0
ComesWithoutFiles (Synth job) outcome = Unit {0}
ComesWithoutFiles (Check job) outcome = Unit {0}
ComesWithoutFiles (Run job) outcome = Unit {0}
ComesWithoutFiles (Gen job) outcome = Gives (gen_due job) outcome × IfErr outcome (λ halt. halt ≡ halts.OutOfMemory)

-- the reply is an answer that is due whatever files there may be, and there is none for want of memory alone
pub record RepliesWithoutFiles (words : List (List ℕ)) (result : Result Reply NoReply) : Type 0 where
  pub due : (files : Files) → IfOk result (Due words files)
  pub verdict : IfOk result (λ reply. IsAnswerStatus reply.status)
  pub cause : IfErr result (λ why. why ≡ none.OutOfMemory)

-- what writing a reply comes to: all of it was appended, or a front of it
pub record Writes (reply : Reply) (status : Status) (old new : Option (List ℕ)) : Type 0 where
  pub whole : status ≢ WriteFault → (status ≡ reply.status) × Appends old new reply.text
  pub part : status ≡ WriteFault → AppendsPrefix old new reply.text

-- whether a status tells that the output could not be written
abbrev pub is_write_fault : Status → Bool
is_write_fault WriteFault = true
is_write_fault _ = false
