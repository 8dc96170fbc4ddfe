-- What the planner did, by the status that it ended with, and when each status may come.
use Rattle.std.specs.Prelude.{◌≡◌, ◌≢◌, ℕ, List, [], ◌∷◌, ◌++◌, Option}
use Rattle.bfgp_outside.specs.Causes.{Rose}
use Rattle.bfgp_outside.specs.Sink.{Keeps, Appends, AppendsPrefix}
use Rattle.command_words.specs.declared.job.Job.{Job}
use Rattle.command_words.specs.declared.job.Job.TheVariants.{Synth, Check, Run, Gen}
use Rattle.command_words.specs.declared.job.GenJob.{GenJob}
use Rattle.command_words.specs.Words.{JobOf, names_of, usage_text}
use Rattle.input_reading.specs.Asked.{AsksInTurn}
use Rattle.input_reading.specs.declared.fault.Fault.{Fault}
use Rattle.input_reading.specs.declared.fault.Fault.TheVariants as faults
use Rattle.input_reading.specs.Faults.{fault_line}
use Rattle.bfgp_jobs.specs.declared.status.Status.{Status}
use Rattle.bfgp_jobs.specs.declared.status.Status.TheVariants.{Done, No, Usage, Input, SpentExpansions, SpentRun, ReadFault, WriteFault, OutOfMemory}
use Rattle.bfgp_jobs.specs.Reply.{Reply}

-- the status is that of a reply that is due, and its text was appended
pub record Replied (due : Reply → Type 0) (status : Status) (old new : Option (List ℕ)) : Type 0 where
  pub reply : Reply
  pub due_reply : due reply
  pub status_is : status ≡ reply.status
  pub appended : Appends old new reply.text

-- a front of the text of a reply that is due was appended
pub record RepliedInPart (due : Reply → Type 0) (old new : Option (List ℕ)) : Type 0 where
  pub reply : Reply
  pub due_reply : due reply
  pub appended : AppendsPrefix old new reply.text

-- with a write fault a front of what is due was written; with a read fault or want of memory nothing; else what is due
abbrev pub Answers : (Reply → Type 0) → Status → Option (List ℕ) → Option (List ℕ) → Type 0
Answers due ReadFault old new = Keeps old new
Answers due OutOfMemory old new = Keeps old new
Answers due WriteFault old new = RepliedInPart due old new
Answers due Done old new = Replied due Done old new
Answers due No old new = Replied due No old new
Answers due Usage old new = Replied due Usage old new
Answers due Input old new = Replied due Input old new
Answers due SpentExpansions old new = Replied due SpentExpansions old new
Answers due SpentRun old new = Replied due SpentRun old new

-- a read fault and want of memory write nothing, also over a shelf that does not tell its files
abbrev pub IsSilent : Status → Option (List ℕ) → Option (List ℕ) → Type 0
IsSilent ReadFault old new = Keeps old new
IsSilent OutOfMemory old new = Keeps old new
IsSilent _ old new = Unit {0}

-- the status of an answer: whether a program was found, a document accepted, or all instances solved; or what the search spent
abbrev pub IsAnswerStatus : Status → Type 0
IsAnswerStatus Done = Unit {0}
IsAnswerStatus No = Unit {0}
IsAnswerStatus SpentExpansions = Unit {0}
IsAnswerStatus SpentRun = Unit {0}
IsAnswerStatus _ = ⊥

-- the status of a search that spent its budget of splits, or the limit of steps of a run
abbrev pub IsSpent : Status → Type 0
IsSpent SpentExpansions = Unit {0}
IsSpent SpentRun = Unit {0}
IsSpent _ = ⊥

-- the job is a search: over the instances of files, or over a family
abbrev pub IsSearch : Job → Type 0
IsSearch (Synth job) = Unit {0}
IsSearch (Check job) = ⊥
IsSearch (Run job) = ⊥
IsSearch (Gen job) = Unit {0}

-- the words are those of a search
abbrev pub AreSearch : List (List ℕ) → Type 0
AreSearch words = (job : Job) × JobOf words job × IsSearch job

-- the words are those of a search over a family, which reads no file
abbrev pub AreOfFamily : List (List ℕ) → Type 0
AreOfFamily words = (job : GenJob) × JobOf words (Gen job)

-- the status tells of a file: that it is absent, too long or refused, or that it could not be read
abbrev pub TellsOfFile : Status → Type 0
TellsOfFile Input = Unit {0}
TellsOfFile ReadFault = Unit {0}
TellsOfFile _ = ⊥

-- what happens where the words are no job, whatever the shelf tells: usage is answered, but for a write fault or want of memory
abbrev pub AnswersUsage : Status → Option (List ℕ) → Option (List ℕ) → Type 0
AnswersUsage Usage old new = Appends old new usage_text
AnswersUsage WriteFault old new = AppendsPrefix old new usage_text
AnswersUsage OutOfMemory old new = Keeps old new
AnswersUsage _ old new = ⊥

-- usage is answered exactly where the words are no job, but for a write fault and want of memory
pub record UsageIsExact (words : List (List ℕ)) (status : Status) (old new : Option (List ℕ)) : Type 0 where
  pub no_job : ((job : Job) → JobOf words job → ⊥) → AnswersUsage status old new
  pub a_job : (job : Job) → JobOf words job → status ≢ Usage

-- the line of a fault was appended, and that of an absent file only where the count of absences rose
pub record InputCause (absences absences_now : ℕ) (old new : Option (List ℕ)) : Type 0 where
  pub name : List ℕ
  pub fault : Fault
  pub appended : Appends old new (fault_line name fault)
  pub absent : fault ≡ faults.Absent → Rose absences absences_now

-- the files that a job names, in the order in which they are read
abbrev pub files_of : Job → List (List ℕ)
files_of (Synth job) = names_of job.inputs
files_of (Check job) = names_of job.inputs ++ job.answer ∷ []
files_of (Run job) = names_of job.inputs ++ job.program ∷ []
files_of (Gen job) = []

-- the files that the words' job names are asked for in turn, none of them again after a later one, and no other; and none at all
-- where the words are no job
pub record AsksForNamed (words : List (List ℕ)) (before now : Option (List (List ℕ))) : Type 0 where
  pub a_job : (job : Job) → JobOf words job → AsksInTurn before now (files_of job)
  pub no_job : ((job : Job) → JobOf words job → ⊥) → now ≡ before
