-- The reply to the words of a command.
use Rattle.std.proofs.Common.{◌≡◌, ℕ, List, Option, Some, None, Result, Ok, Err, refl, sym, subst}
use Rattle.std.specs.Prelude.{IfOk, IfErr}
use Rattle.bfgp_outside.specs.Causes.{RoseIf}
use Rattle.bfgp_outside.specs.Shelf.{Files, Knowing}
use Rattle.command_words.specs.declared.job.Job.{Job}
use Rattle.command_words.specs.declared.job.Job.TheVariants.{Gen}
use Rattle.command_words.specs.Words.{JobOf}
use Rattle.command_words.proofs.OneJob.{JobOf-unique}
use Rattle.input_reading.specs.Asked.{AsksInTurn}
use Rattle.input_reading.proofs.AskedFor.{asks_nothing}
use Rattle.input_reading.specs.declared.halt.Halt.{Halt}
use Rattle.input_reading.specs.declared.halt.Halt.TheVariants.{Refused, ReadFault, OutOfMemory}
use Rattle.input_reading.specs.Causes.{TellsFault, HaltCause, is_read_fault}
use Rattle.input_reading.specs.Steps.{Gives}
use Rattle.input_reading.proofs.Chain.{knowing}
use Rattle.bfgp_jobs.specs.declared.replying.NoReply.{NoReply}
use Rattle.bfgp_jobs.specs.declared.status.Status.TheVariants.{Input}
use Rattle.bfgp_jobs.specs.Reply.{Reply}
use Rattle.bfgp_jobs.specs.Due.{Due, answer, fault, usage, usage_reply, job_due}
use Rattle.bfgp_jobs.specs.Answers.{AreOfFamily, AreSearch, AsksForNamed, IsAnswerStatus, IsSearch, IsSpent, files_of}
use Rattle.bfgp_jobs.specs.Inner.Replying.{told, lacks_file, ComesWithoutFiles, IsReplyStatus, RepliesUsage, RepliesWithoutFiles}
use Rattle.bfgp_jobs.proofs.Statuses.{verdict_replies, verdict_no_input, verdict_no_usage}

-- what a job's code gives is due
given_due : (words : List (List ℕ)) (files : Files) (job : Job) (outcome : Result Reply Halt) → JobOf words job → Gives (job_due files job) outcome → IfOk (told outcome) (Due words files)
given_due words files job (Ok reply) is here = answer job is here
given_due words files job (Err (Refused line)) is here = fault job is here
given_due words files job (Err ReadFault) is here = tt
given_due words files job (Err OutOfMemory) is here = tt

pub job_known : (known : Option Files) (words : List (List ℕ)) (job : Job) (outcome : Result Reply Halt) (result : Result Reply NoReply) → JobOf words job → result ≡ told outcome → Knowing known (λ files. Gives (job_due files job) outcome) → Knowing known (λ files. IfOk result (Due words files))
job_known known words job outcome result is same = knowing known (λ files. Gives (job_due files job) outcome) (λ files. IfOk result (Due words files)) (λ files here.
    subst (λ (r : Result Reply NoReply). IfOk r (Due words files)) (sym same) (given_due words files job outcome is here))

-- words that are no job are answered by the usage text
pub usage_known : (known : Option Files) (words : List (List ℕ)) (reply : Reply) → ((job : Job) → JobOf words job → ⊥) → reply ≡ usage_reply → Knowing known (λ files. Due words files reply)
usage_known known words reply none is = knowing known (λ files. Unit {0}) (λ files. Due words files reply) (λ files here. subst (λ (r : Reply). Due words files r) (sym is) (usage none)) (all known)
  where
    all : (o : Option Files) → Knowing o (λ files. Unit {0})
    all (Some files) = tt
    all None = tt

-- a job is not answered by the usage text
pub job_usage : (words : List (List ℕ)) (job : Job) (outcome : Result Reply Halt) (result : Result Reply NoReply) → JobOf words job → result ≡ told outcome → IfOk outcome (λ reply. IsAnswerStatus reply.status) → RepliesUsage words result
job_usage words job outcome result is same verdict = subst (RepliesUsage words) (sym same) (by_outcome outcome verdict)
  where
    by_outcome : (o : Result Reply Halt) → IfOk o (λ reply. IsAnswerStatus reply.status) → RepliesUsage words (told o)
    by_outcome (Ok reply) verdict = record { no_job = λ none. absurd (none job is); a_job = λ other other_is same. verdict_no_usage reply.status verdict same }
    by_outcome (Err (Refused line)) verdict = record { no_job = λ none. absurd (none job is); a_job = λ other other_is same. absurd (cc) }
    by_outcome (Err ReadFault) verdict = record { no_job = λ none. absurd (none job is); a_job = λ other other_is. tt }
    by_outcome (Err OutOfMemory) verdict = record { no_job = λ none. absurd (none job is); a_job = λ other other_is. tt }

-- where a job is answered with the status of an input, a fault is told
pub job_input : (absences absences_now : ℕ) (outcome : Result Reply Halt) (result : Result Reply NoReply) → result ≡ told outcome → IfOk outcome (λ reply. IsAnswerStatus reply.status) → IfErr outcome (HaltCause absences absences_now) → IfOk result (λ reply. reply.status ≡ Input → TellsFault absences absences_now reply.text)
job_input absences absences_now outcome result same verdict cause = subst Tells (sym same) (by_outcome outcome verdict cause)
  where
    Tells : Result Reply NoReply → Type 0
    Tells r = IfOk r (λ reply. reply.status ≡ Input → TellsFault absences absences_now reply.text)

    by_outcome : (o : Result Reply Halt) → IfOk o (λ reply. IsAnswerStatus reply.status) → IfErr o (HaltCause absences absences_now) → Tells (told o)
    by_outcome (Ok reply) verdict cause = λ input. absurd (verdict_no_input reply.status verdict input)
    by_outcome (Err (Refused line)) verdict cause = λ input. cause
    by_outcome (Err ReadFault) verdict cause = tt
    by_outcome (Err OutOfMemory) verdict cause = tt

pub job_status : (outcome : Result Reply Halt) (result : Result Reply NoReply) → result ≡ told outcome → IfOk outcome (λ reply. IsAnswerStatus reply.status) → IfOk result (λ reply. IsReplyStatus reply.status)
job_status outcome result same verdict = subst (λ (r : Result Reply NoReply). IfOk r (λ reply. IsReplyStatus reply.status)) (sym same) (by_outcome outcome verdict)
  where
    by_outcome : (o : Result Reply Halt) → IfOk o (λ reply. IsAnswerStatus reply.status) → IfOk (told o) (λ reply. IsReplyStatus reply.status)
    by_outcome (Ok reply) verdict = verdict_replies reply.status verdict
    by_outcome (Err (Refused line)) verdict = tt
    by_outcome (Err ReadFault) verdict = tt
    by_outcome (Err OutOfMemory) verdict = tt

-- only a search spends
pub job_spent : (words : List (List ℕ)) (job : Job) (outcome : Result Reply Halt) (result : Result Reply NoReply) → JobOf words job → result ≡ told outcome → IfOk outcome (λ reply. IsSpent reply.status → IsSearch job) → IfOk result (λ reply. IsSpent reply.status → AreSearch words)
job_spent words job outcome result is same spent = subst (λ (r : Result Reply NoReply). IfOk r (λ reply. IsSpent reply.status → AreSearch words)) (sym same) (by_outcome outcome spent)
  where
    by_outcome : (o : Result Reply Halt) → IfOk o (λ reply. IsSpent reply.status → IsSearch job) → IfOk (told o) (λ reply. IsSpent reply.status → AreSearch words)
    by_outcome (Ok reply) spent = λ is_spent. (job, is, spent is_spent)
    by_outcome (Err (Refused line)) spent = λ is_spent. absurd is_spent
    by_outcome (Err ReadFault) spent = tt
    by_outcome (Err OutOfMemory) spent = tt

-- the usage text is not what a search spends
pub usage_unspent : (words : List (List ℕ)) (reply : Reply) → reply ≡ usage_reply → IsSpent reply.status → AreSearch words
usage_unspent words reply is spent = absurd (subst (λ (r : Reply). IsSpent r.status) is spent)

pub job_reads : (reads reads_now : ℕ) (outcome : Result Reply Halt) (result : Result Reply NoReply) → result ≡ told outcome → RoseIf (is_read_fault outcome) reads reads_now → RoseIf (lacks_file result) reads reads_now
job_reads reads reads_now outcome result same rose = subst (λ (r : Result Reply NoReply). RoseIf (lacks_file r) reads reads_now) (sym same) (by_outcome outcome rose)
  where
    by_outcome : (o : Result Reply Halt) → RoseIf (is_read_fault o) reads reads_now → RoseIf (lacks_file (told o)) reads reads_now
    by_outcome (Ok reply) rose = rose
    by_outcome (Err (Refused line)) rose = rose
    by_outcome (Err ReadFault) rose = rose
    by_outcome (Err OutOfMemory) rose = rose

-- the files that a job names were asked for
pub named_asked : (words : List (List ℕ)) (job : Job) (before now : Option (List (List ℕ))) → JobOf words job → AsksInTurn before now (files_of job) → AsksForNamed words before now
named_asked words job before now is here = record {
  a_job = λ other is_too. subst (λ (j : Job). AsksInTurn before now (files_of j)) (JobOf-unique words job other is is_too) here;
  no_job = λ none. absurd (none job is);
}

-- nothing was asked for
pub none_asked : (words : List (List ℕ)) (asked : Option (List (List ℕ))) → AsksForNamed words asked asked
none_asked words asked = record { a_job = λ job is. asks_nothing asked (files_of job); no_job = λ none. refl }

-- a search over a family is replied to without a file
pub job_without_files : (words : List (List ℕ)) (job : Job) (outcome : Result Reply Halt) (result : Result Reply NoReply) → JobOf words job → result ≡ told outcome → IfOk outcome (λ reply. IsAnswerStatus reply.status) → ComesWithoutFiles job outcome → AreOfFamily words → RepliesWithoutFiles words result
job_without_files words job outcome result is same verdict comes family =
    let comes_so = subst (λ (j : Job). ComesWithoutFiles j outcome) (JobOf-unique words job (Gen family.0) is family.1) comes in
    subst (RepliesWithoutFiles words) (sym same) (by_outcome outcome verdict comes_so)
  where
    by_outcome : (o : Result Reply Halt) → IfOk o (λ reply. IsAnswerStatus reply.status) → ComesWithoutFiles (Gen family.0) o → RepliesWithoutFiles words (told o)
    by_outcome (Ok reply) verdict comes = record { due = λ files. answer (Gen family.0) family.1 comes.0; verdict = verdict; cause = tt }
    by_outcome (Err (Refused line)) verdict comes = absurd (let e = comes.1 in cc)
    by_outcome (Err ReadFault) verdict comes = absurd (let e = comes.1 in cc)
    by_outcome (Err OutOfMemory) verdict comes = record { due = λ files. tt; verdict = tt; cause = refl }

-- words that are those of a search over a family are a job
pub usage_no_family : (words : List (List ℕ)) (result : Result Reply NoReply) → ((job : Job) → JobOf words job → ⊥) → AreOfFamily words → RepliesWithoutFiles words result
usage_no_family words result none family = absurd (none (Gen family.0) family.1)
