-- One reply is due at most.
use Rattle.std.proofs.Common.{◌≡◌, ℕ, List, Result, Ok, Err, refl, sym, ◌∙◌, ap, subst}
use Rattle.flag_rules.specs.declared.file.TheConstants.{MAX_FILE_BYTES}
use Rattle.bfgp_outside.specs.Shelf.{Files}
use Rattle.program_model.specs.Program.{Program, IsProgram}
use Rattle.instance_report.specs.declared.answer.Report.{Report}
use Rattle.instance_report.proofs.OneReport.{same_report}
use Rattle.pointer_machine.specs.Machine.{MachineParts, meaning_of}
use Rattle.pointer_machine.specs.Texts.{operation_texts}
use Rattle.search_bounds.specs.declared.bounds.Bounds.{Bounds}
use Rattle.refutation_tree.specs.declared.evidence.Answer.{Answer as SearchAnswer}
use Rattle.answer_writer.specs.Document.{document}
use Rattle.family_gen.specs.Families.{family_name, family_texts, pointers_of, bounds_of}
use Rattle.summary_writer.specs.Summary.{summary}
use Rattle.synthesis.specs.BestFirst.{best_first}
use Rattle.synthesis.proofs.SameAnswers.{same_answer}
use Rattle.command_words.specs.declared.job.Job.{Job}
use Rattle.command_words.specs.declared.job.Job.TheVariants.{Synth, Check, Run, Gen}
use Rattle.command_words.specs.declared.job.GenJob.{GenJob}
use Rattle.command_words.specs.Words.{IsJob, JobOf}
use Rattle.command_words.proofs.OneJob.{job_kept, JobOf-unique}
use Rattle.bfgp_jobs.specs.Reply.{Reply}
use Rattle.input_reading.proofs.Decided.{IsDecided, then_decided, tell_decided}
use Rattle.input_reading.proofs.OneResult.{file_decided, machine_decided, machine_of_texts_decided, machine_named, program_definite}
use Rattle.bfgp_jobs.specs.declared.check.TheConstants.{MAX_DOCUMENT_BYTES}
use Rattle.bfgp_jobs.specs.Due.{Due, answer, fault, usage, fault_reply, answer_due, summary_due, VerdictDue, accepted, rejected, report_due, job_due, status_of, report_status}
use Rattle.bfgp_jobs.proofs.Runs.{program_over}

answer_decided : (machine : MachineParts) (bounds : Bounds) → IsDecided (answer_due machine bounds)
answer_decided machine bounds = record { one = both }
  where
    reply_with : SearchAnswer → Reply
    reply_with a = record { status = status_of a.outcome; text = document (operation_texts machine.task machine.pointers) a }

    both : (r s : Result Reply (List ℕ)) → answer_due machine bounds r → answer_due machine bounds s → r ≡ s
    both (Ok x) (Ok y) p q = ap Ok (p.2 ∙ ap reply_with (same_answer (best_first (meaning_of machine) bounds) bounds.budget bounds.lines p.0 q.0 p.1 q.1) ∙ sym q.2)
    both (Ok x) (Err y) p q = absurd q
    both (Err x) s p q = absurd p

summary_decided : (job : GenJob) (machine : MachineParts) → IsDecided (summary_due job machine)
summary_decided job machine = record { one = both }
  where
    reply_with : SearchAnswer → Reply
    reply_with a = record { status = status_of a.outcome; text = summary (operation_texts machine.task machine.pointers) job.family job.number a }

    both : (r s : Result Reply (List ℕ)) → summary_due job machine r → summary_due job machine s → r ≡ s
    both (Ok x) (Ok y) p q =
        let bounds = bounds_of job.family in
        ap Ok (p.2 ∙ ap reply_with (same_answer (best_first (meaning_of machine) bounds) bounds.budget bounds.lines p.0 q.0 p.1 q.1) ∙ sym q.2)
    both (Ok x) (Err y) p q = absurd q
    both (Err x) s p q = absurd p

verdict_decided : (machine : MachineParts) (lines : ℕ) (bytes : List ℕ) → IsDecided (VerdictDue machine lines bytes)
verdict_decided machine lines bytes = record { one = both }
  where
    both : (r s : Result Reply (List ℕ)) → VerdictDue machine lines bytes r → VerdictDue machine lines bytes s → r ≡ s
    both _ _ (accepted is) (accepted is_too) = refl
    both _ _ (accepted is) (rejected none) = absurd (none is)
    both _ _ (rejected none) (accepted is) = absurd (none is)
    both _ _ (rejected none) (rejected none_too) = refl

report_decided : (machine : MachineParts) (limit : ℕ) (program : Program) → IsProgram (meaning_of machine).ops program → IsDecided (report_due machine limit program)
report_decided machine limit program whole = record { one = both }
  where
    reply_with : Report → Reply
    reply_with report = record { status = report_status report.all_solved; text = report.text }

    both : (r s : Result Reply (List ℕ)) → report_due machine limit program r → report_due machine limit program s → r ≡ s
    both (Ok x) (Ok y) p q = ap Ok (p.2 ∙ ap reply_with (same_report (meaning_of machine) (meaning_of machine).ops program limit whole.is_partial p.0 q.0 p.1 q.1) ∙ sym q.2)
    both (Ok x) (Err y) p q = absurd q
    both (Err x) s p q = absurd p

job_decided : (files : Files) (job : Job) → IsJob job → IsDecided (job_due files job)
job_decided files (Synth job) is =
    then_decided (machine_decided files job.inputs job.pointers) (λ machine made.
    answer_decided machine job.bounds)
job_decided files (Check job) is =
    then_decided (machine_decided files job.inputs job.pointers) (λ machine made.
    then_decided (file_decided files MAX_DOCUMENT_BYTES job.answer) (λ bytes read.
    verdict_decided machine job.lines bytes))
job_decided files (Run job) is =
    then_decided (machine_decided files job.inputs job.pointers) (λ machine made.
    then_decided (file_decided files MAX_FILE_BYTES job.program) (λ bytes read.
    then_decided (tell_decided job.program (program_definite (operation_texts machine.task machine.pointers) bytes (machine_named files job.inputs job.pointers is.some_pointers is.few_pointers machine made))) (λ program reads.
    report_decided machine job.run program (program_over machine bytes program reads))))
job_decided files (Gen job) is =
    let texts = family_texts job.family job.number in
    then_decided (machine_of_texts_decided (family_name job.family) texts.domain texts.problems (pointers_of job.family)) (λ machine made.
    summary_decided job machine)

abbrev reply_of : Result Reply (List ℕ) → Reply
reply_of (Ok reply) = reply
reply_of (Err line) = fault_reply line

-- what the words' job comes to is all that is due
is_due : (words : List (List ℕ)) (files : Files) (job : Job) (r : Result Reply (List ℕ)) (other : Reply) → JobOf words job → job_due files job r → Due words files other → reply_of r ≡ other
is_due words files job r other is here (answer same same_is there) = ap reply_of ((job_decided files job (job_kept words job is)).one r (Ok other) here (subst (λ (j : Job). job_due files j (Ok other)) (JobOf-unique words same job same_is is) there))
is_due words files job r _ is here (fault same {line = line} same_is there) = ap reply_of ((job_decided files job (job_kept words job is)).one r (Err line) here (subst (λ (j : Job). job_due files j (Err line)) (JobOf-unique words same job same_is is) there))
is_due words files job r _ is here (usage none) = absurd (none job is)

pub Due-unique : (words : List (List ℕ)) (files : Files) (one other : Reply) → Due words files one → Due words files other → one ≡ other
Due-unique words files one other (answer job is here) due = is_due words files job (Ok one) other is here due
Due-unique words files _ other (fault job {line = line} is here) due = is_due words files job (Err line) other is here due
Due-unique words files _ other (usage none) (answer job is here) = absurd (none job is)
Due-unique words files _ _ (usage none) (fault job is here) = absurd (none job is)
Due-unique words files _ _ (usage none) (usage none_too) = refl
