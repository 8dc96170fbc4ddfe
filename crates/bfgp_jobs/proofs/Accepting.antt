-- What `synth` writes, `check` accepts.
use Rattle.std.proofs.Common.{◌≡◌, ℕ, ◌≤◌, List, length, All, Option, Ok, sym, ap, subst, arith}
use Rattle.bfgp_outside.specs.Shelf.{Files}
use Rattle.bfgp_outside.specs.Whole.{whole_of}
use Rattle.pointer_machine.specs.Machine.{MachineParts}
use Rattle.pointer_machine.specs.Texts.{operation_texts}
use Rattle.answer_writer.specs.Document.{document}
use Rattle.document_length.specs.declared.lengths.TheConstants.{MAX_TEXT_LENGTH, MAX_DOCUMENT_LENGTH}
use Rattle.document_length.proofs.Sizes.{document_fits}
use Rattle.synthesis.specs.BestFirst.{best_first}
use Rattle.written_length.proofs.Budgets.{splits_within}
use Rattle.written_length.proofs.Files.{operations_short}
use Rattle.command_words.specs.declared.job.Job.{Job}
use Rattle.command_words.specs.declared.job.Job.TheVariants.{Synth, Check}
use Rattle.command_words.specs.declared.job.SynthJob.{SynthJob}
use Rattle.command_words.specs.Words.{JobOf}
use Rattle.command_words.proofs.OneJob.{job_kept, JobOf-unique}
use Rattle.input_reading.specs.Steps.{goes_on}
use Rattle.input_reading.specs.Inputs.{file_due, machine_due}
use Rattle.input_reading.proofs.Held.{short_whole}
use Rattle.input_reading.proofs.OtherFiles.{machine_kept}
use Rattle.bfgp_jobs.specs.declared.check.TheConstants.{MAX_DOCUMENT_BYTES}
use Rattle.bfgp_jobs.specs.declared.status.Status.{Status}
use Rattle.bfgp_jobs.specs.Reply.{Reply}
use Rattle.bfgp_jobs.specs.Due.{Due, answer, synth_due, check_due, job_due, IsAcceptedDocument, accepted, accepted_reply}
use Rattle.bfgp_jobs.specs.Answers.{IsAnswerStatus}
use Rattle.bfgp_jobs.specs.Headline.{posed_parts, posed_machine}
use Rattle.bfgp_jobs.specs.Acceptance.{check_of, HoldsWritten, CheckAccepts}
use Rattle.bfgp_jobs.specs.Inner.Replying.{Writes}
use Rattle.bfgp_jobs.proofs.Statuses.{verdict_no_input, verdict_no_usage, verdict_no_write}
use Rattle.bfgp_jobs.proofs.Headlines.{Answered, answered, answer_accepted, document_says, concluded}

-- the reply to the words of a search that ended with an answer is what the search comes to
search_comes : (words : List (List ℕ)) (files : Files) (job : SynthJob) (reply : Reply) → JobOf words (Synth job) → IsAnswerStatus reply.status → Due words files reply → synth_due files job (Ok reply)
search_comes words files job reply is verdict due =
    let known = concluded words files reply (verdict_no_input reply.status verdict) (verdict_no_usage reply.status verdict) due in
    subst (λ (j : Job). job_due files j (Ok reply)) (JobOf-unique words known.job (Synth job) known.job_is is) known.comes

module _ (files : Files) (job : SynthJob) (reply : Reply) (known : Answered files job reply) where
  -- its text is the document of an accepted answer
  text_accepted : IsAcceptedDocument (posed_parts known.posed.task known.posed.instances job.pointers) job.bounds.lines reply.text
  text_accepted =
      let parts = posed_parts known.posed.task known.posed.instances job.pointers in
      subst (λ (text : List ℕ). IsAcceptedDocument parts job.bounds.lines text) (sym (ap (λ (r : Reply). r.text) known.is)) (record {
        answer = known.found;
        says = document_says files job reply known;
        is_accepted = answer_accepted files job reply known;
      })

  -- it has few enough bytes for a check
  text_fits : length reply.text ≤ MAX_DOCUMENT_BYTES
  text_fits =
      let task = known.posed.task in
      let texts = operation_texts task job.pointers in
      let searched = known.searched in
      let setting = best_first (posed_machine task known.posed.instances job.pointers) job.bounds in
      let splits = splits_within setting job.bounds.budget job.bounds.lines known.found searched.is_answer in
      let short : All (λ text. length text ≤ MAX_TEXT_LENGTH) texts =
      subst (λ (m : MachineParts). All (λ text. length text ≤ MAX_TEXT_LENGTH) (operation_texts m.task m.pointers)) known.machine_is
      (operations_short files job.inputs job.pointers known.machine searched.are.few_pointers.1 known.made) in
      let fits : length (document texts known.found) ≤ MAX_DOCUMENT_LENGTH =
      document_fits texts known.found known.named (document_says files job reply known).0 (omega (arith, splits, searched.within.few_splits)) short in
      subst (λ (text : List ℕ). length text ≤ MAX_DOCUMENT_BYTES) (sym (ap (λ (r : Reply). r.text) known.is)) (omega (arith, fits))

  -- it is due that a check of it accepts
  text_checked : (name : List ℕ) (later : Files) → HoldsWritten job files reply.text name later → check_due later (check_of job name) (Ok accepted_reply)
  text_checked name later holds =
      let made : machine_due later job.inputs job.pointers (Ok known.machine) = machine_kept files later job.inputs job.pointers (Ok known.machine) holds.kept known.made in
      let read : file_due later MAX_DOCUMENT_BYTES name (Ok reply.text) =
      subst (λ (held : Option (List ℕ)). Ok reply.text ≡ whole_of held MAX_DOCUMENT_BYTES) (sym holds.holds) (short_whole reply.text MAX_DOCUMENT_BYTES text_fits) in
      let is : IsAcceptedDocument known.machine job.bounds.lines reply.text = subst (λ (m : MachineParts). IsAcceptedDocument m job.bounds.lines reply.text) (sym known.machine_is) text_accepted in
      goes_on made (goes_on read (accepted is))

-- what was written of a reply that is due
pub check_accepts : (words : List (List ℕ)) (files : Files) (reply : Reply) (status : Status) (old new : Option (List ℕ)) → Due words files reply → Writes reply status old new → CheckAccepts words files status old new
check_accepts words files reply status old new due writes = λ job is verdict.
    let wrote = writes.whole (verdict_no_write status verdict) in
    let is_job = job_kept words (Synth job) is in
    let known = answered files job reply is_job (search_comes words files job reply is (subst IsAnswerStatus wrote.0 verdict) due) in
    let reply_is : reply ≡ record { status = status; text = reply.text } = λ i. record { status = sym wrote.0 i; text = reply.text } in
    record {
      bytes = reply.text;
      appended = wrote.1;
      due = subst (Due words files) reply_is due;
      posed = known.posed;
      is_accepted = text_accepted files job reply known;
      checked = λ name check_words later check_is holds. answer (Check (check_of job name)) check_is (text_checked files job reply known name later holds);
    }
