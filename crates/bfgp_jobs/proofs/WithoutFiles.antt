-- A search over a family, which reads no file.
use Rattle.std.proofs.Common.{◌≡◌, ℕ, List, Option, Some, None, Result, Ok, Err, refl, sym, subst}
use Rattle.std.specs.Prelude.{IfErr}
use Rattle.bfgp_outside.specs.Causes.{RoseIf}
use Rattle.bfgp_outside.specs.Shelf.{Files, Knowing}
use Rattle.bfgp_outside.specs.Sink.{Keeps}
use Rattle.pointer_machine.specs.Machine.{MachineParts}
use Rattle.command_words.specs.declared.job.GenJob.{GenJob}
use Rattle.command_words.specs.declared.job.Job.{Job}
use Rattle.command_words.specs.declared.job.Job.TheVariants.{Gen}
use Rattle.input_reading.specs.declared.halt.Halt.{Halt}
use Rattle.input_reading.specs.declared.halt.Halt.TheVariants.{Refused, ReadFault, OutOfMemory}
use Rattle.input_reading.specs.Causes.{HaltCause, is_read_fault}
use Rattle.input_reading.specs.Inner.Causes.{TellsOther}
use Rattle.input_reading.specs.Steps.{Gives}
use Rattle.input_reading.proofs.Chain.{knowing_always, then_next, then_end}
use Rattle.bfgp_jobs.specs.declared.replying.NoReply.TheVariants as none
use Rattle.bfgp_jobs.specs.declared.status.Status.{Status}
use Rattle.bfgp_jobs.specs.declared.status.Status.TheVariants as statuses
use Rattle.bfgp_jobs.specs.Reply.{Reply}
use Rattle.bfgp_jobs.specs.Due.{Due, summary_due, gen_due, job_due}
use Rattle.bfgp_jobs.specs.Headline.{StandsWithoutFiles}
use Rattle.bfgp_jobs.specs.Inner.Replying.{Writes, RepliesWithoutFiles}
use Rattle.bfgp_jobs.proofs.FamilyMachines.{FamilyDue, family_faultless}
use Rattle.bfgp_jobs.proofs.Headlines.{headline}
use Rattle.bfgp_jobs.proofs.Statuses.{verdict_replies, no_file_written}
use Rattle.bfgp_jobs.proofs.Written.{written_due}

-- the job, once its machine is made
pub gen_next : (job : GenJob) (machine : MachineParts) (reply : Reply) → FamilyDue job.family job.number (Ok machine) → summary_due job machine (Ok reply) → Gives (gen_due job) (Ok reply)
gen_next job machine reply made found = then_next (FamilyDue job.family job.number) (summary_due job) machine (Ok reply) made found

-- and where none is made
pub gen_end : (job : GenJob) (halt : Halt) → Gives (FamilyDue job.family job.number) (Err halt) → Gives (gen_due job) (Err halt)
gen_end job halt ended = then_end (FamilyDue job.family job.number) (summary_due job) halt ended

-- it ends before that for want of memory alone
pub gen_memory : (job : GenJob) (halt : Halt) → Gives (FamilyDue job.family job.number) (Err halt) → TellsOther halt → halt ≡ OutOfMemory
gen_memory job (Refused line) told other = absurd (family_faultless job.family job.number line told)
gen_memory job ReadFault told other = absurd other
gen_memory job OutOfMemory told other = refl

-- what a search over a family comes to is due whatever files there may be
pub gen_known : (known : Option Files) (any : Job) (job : GenJob) (r : Result Reply Halt) → any ≡ Gen job → Gives (gen_due job) r → Knowing known (λ (files : Files). Gives (job_due files any) r)
gen_known known any job r is due = knowing_always known (λ (files : Files). Gives (job_due files any) r) (λ files. subst (λ (j : Job). Gives (job_due files j) r) (sym is) due)

-- and its end tells neither a fault nor a failed read
pub gen_cause : (absences : ℕ) (r : Result Reply Halt) → IfErr r (λ halt. halt ≡ OutOfMemory) → IfErr r (HaltCause absences absences)
gen_cause absences (Ok reply) memory = tt
gen_cause absences (Err (Refused line)) memory = absurd (cc)
gen_cause absences (Err ReadFault) memory = tt
gen_cause absences (Err OutOfMemory) memory = tt

pub gen_reads : (reads : ℕ) (r : Result Reply Halt) → IfErr r (λ halt. halt ≡ OutOfMemory) → RoseIf (is_read_fault r) reads reads
gen_reads reads (Ok reply) memory = refl
gen_reads reads (Err (Refused line)) memory = refl
gen_reads reads (Err ReadFault) memory = absurd (cc)
gen_reads reads (Err OutOfMemory) memory = refl

-- what was written of its reply stands without files
pub reply_stands : (words : List (List ℕ)) (reply : Reply) (status : Status) (old new : Option (List ℕ)) → Writes reply status old new → RepliesWithoutFiles words (Ok reply) → StandsWithoutFiles words status old new
reply_stands words reply status old new writes replies = record {
  headline = λ files. headline words files reply status old new (replies.due files) writes;
  due = λ files. written_due (Due words files) reply status old new (replies.due files) (verdict_replies reply.status replies.verdict) writes;
  no_file = no_file_written reply status old new writes replies.verdict;
}

-- and so does that nothing was written for want of memory
pub memory_stands : (words : List (List ℕ)) (known : Option (List ℕ)) → StandsWithoutFiles words statuses.OutOfMemory known known
memory_stands words known = record { headline = λ files. tt; due = λ files. keeps known; no_file = λ tells. tells }
  where
    keeps : (o : Option (List ℕ)) → Keeps o o
    keeps None = tt
    keeps (Some bytes) = refl

pub no_read_fault : (words : List (List ℕ)) (old new : Option (List ℕ)) → RepliesWithoutFiles words (Err none.ReadFault) → StandsWithoutFiles words statuses.ReadFault old new
no_read_fault words old new replies = absurd (let memory = replies.cause in cc)
