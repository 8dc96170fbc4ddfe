-- What is due for the words of a command and the files: one status and one text.
use Rattle.std.specs.Prelude.{◌≡◌, ℕ, Bool, if◌then◌else◌, List, codes, Result, Ok, Err}
use Rattle.flag_rules.specs.Line.{line}
use Rattle.flag_rules.specs.declared.file.TheConstants.{MAX_FILE_BYTES}
use Rattle.bfgp_outside.specs.Shelf.{Files}
use Rattle.program_model.specs.Program.{Program}
use Rattle.pointer_machine.specs.Machine.{MachineParts, meaning_of}
use Rattle.pointer_machine.specs.Texts.{operation_texts}
use Rattle.instance_report.specs.declared.answer.Report.{Report}
use Rattle.instance_report.specs.Report.{IsReport}
use Rattle.refutation_tree.specs.declared.evidence.Answer.{Answer}
use Rattle.refutation_tree.specs.declared.evidence.Outcome.{Outcome}
use Rattle.refutation_tree.specs.declared.evidence.Outcome.TheVariants as outcomes
use Rattle.answer_writer.specs.Document.{document}
use Rattle.search_bounds.specs.declared.bounds.Bounds.{Bounds}
use Rattle.synthesis.specs.BestFirst.{IsBestFirstAnswer}
use Rattle.family_gen.specs.Families.{family_name, family_texts, pointers_of, bounds_of}
use Rattle.summary_writer.specs.Summary.{summary}
use Rattle.command_words.specs.declared.job.Job.{Job}
use Rattle.command_words.specs.declared.job.Job.TheVariants.{Synth, Check, Run, Gen}
use Rattle.command_words.specs.declared.job.SynthJob.{SynthJob}
use Rattle.command_words.specs.declared.job.CheckJob.{CheckJob}
use Rattle.command_words.specs.declared.job.RunJob.{RunJob}
use Rattle.command_words.specs.declared.job.GenJob.{GenJob}
use Rattle.command_words.specs.Words.{JobOf, usage_text}
use Rattle.input_reading.specs.Steps.{◌>>=◌}
use Rattle.input_reading.specs.Inputs.{file_due, machine_due, machine_of_texts_due, program_due}
use Rattle.document_check.specs.Documents.{IsAcceptedDocument as IsAcceptedFor}
use Rattle.bfgp_jobs.specs.declared.check.TheConstants.{MAX_DOCUMENT_BYTES}
use Rattle.bfgp_jobs.specs.declared.status.Status.{Status}
use Rattle.bfgp_jobs.specs.declared.status.Status.TheVariants.{Done, No, Usage, Input, SpentExpansions, SpentRun}
use Rattle.bfgp_jobs.specs.Reply.{Reply}

-- the status of an answer, by its outcome
abbrev pub status_of : Outcome → Status
status_of (outcomes.Program size) = Done
status_of outcomes.Nothing = No
status_of (outcomes.SpentExpansions size) = SpentExpansions
status_of (outcomes.SpentRun size t) = SpentRun

-- the reply is the document of the search's answer
abbrev pub answer_due : MachineParts → Bounds → Result Reply (List ℕ) → Type 0
answer_due machine bounds (Ok reply) = (answer : Answer) × IsBestFirstAnswer (meaning_of machine) bounds answer × (reply ≡ record { status = status_of answer.outcome; text = document (operation_texts machine.task machine.pointers) answer })
answer_due machine bounds (Err line) = ⊥

-- `synth`: the machine, and then the search within the bounds of the job
abbrev pub synth_due : Files → SynthJob → Result Reply (List ℕ) → Type 0
synth_due files job = do
  machine ← machine_due files job.inputs job.pointers
  answer_due machine job.bounds

-- the bytes are the document of an answer that is accepted for a machine and a number of lines; twins may be passed over
abbrev pub IsAcceptedDocument : MachineParts → ℕ → List ℕ → Type 0
IsAcceptedDocument machine lines bytes = IsAcceptedFor (meaning_of machine) (operation_texts machine.task machine.pointers) lines bytes

abbrev pub accepted_reply : Reply
accepted_reply = record { status = Done; text = line (codes "accepted") }

abbrev pub rejected_reply : Reply
rejected_reply = record { status = No; text = line (codes "rejected") }

-- the reply says whether the bytes are an accepted document; bytes that are no document are not
pub data VerdictDue (machine : MachineParts) (lines : ℕ) (bytes : List ℕ) : Result Reply (List ℕ) → Type 0 where
  accepted : IsAcceptedDocument machine lines bytes → VerdictDue machine lines bytes (Ok accepted_reply)
  rejected : (IsAcceptedDocument machine lines bytes → ⊥) → VerdictDue machine lines bytes (Ok rejected_reply)

-- `check`: the machine, then all of the answer file, and then the verdict on it
abbrev pub check_due : Files → CheckJob → Result Reply (List ℕ) → Type 0
check_due files job = do
  machine ← machine_due files job.inputs job.pointers
  bytes ← file_due files MAX_DOCUMENT_BYTES job.answer
  VerdictDue machine job.lines bytes

-- the status of a report
abbrev pub report_status : Bool → Status
report_status all_solved = if all_solved then Done else No

-- the reply is the report of a program's runs
abbrev pub report_due : MachineParts → ℕ → Program → Result Reply (List ℕ) → Type 0
report_due machine limit program (Ok reply) = (report : Report) × IsReport (meaning_of machine) program limit report × (reply ≡ record { status = report_status report.all_solved; text = report.text })
report_due machine limit program (Err line) = ⊥

-- `run`: the machine, then all of the program file, and then its runs
abbrev pub run_due : Files → RunJob → Result Reply (List ℕ) → Type 0
run_due files job = do
  machine ← machine_due files job.inputs job.pointers
  bytes ← file_due files MAX_FILE_BYTES job.program
  program ← program_due machine job.program bytes
  report_due machine job.run program

-- the reply is the summary of the search's answer over a family
abbrev pub summary_due : GenJob → MachineParts → Result Reply (List ℕ) → Type 0
summary_due job machine (Ok reply) = (answer : Answer) × IsBestFirstAnswer (meaning_of machine) (bounds_of job.family) answer × (reply ≡ record { status = status_of answer.outcome; text = summary (operation_texts machine.task machine.pointers) job.family job.number answer })
summary_due job machine (Err line) = ⊥

-- `gen`: the machine over the family's texts, and then the search within the family's bounds
abbrev pub gen_due : GenJob → Result Reply (List ℕ) → Type 0
gen_due job = do
  machine ← machine_of_texts_due (family_name job.family) (family_texts job.family job.number).domain (family_texts job.family job.number).problems (pointers_of job.family)
  summary_due job machine

-- what is due for a job, by its command
abbrev pub job_due : Files → Job → Result Reply (List ℕ) → Type 0
job_due files (Synth job) = synth_due files job
job_due files (Check job) = check_due files job
job_due files (Run job) = run_due files job
job_due files (Gen job) = gen_due job

abbrev pub usage_reply : Reply
usage_reply = record { status = Usage; text = usage_text }

-- the reply with the line that tells the fault of a file
abbrev pub fault_reply : List ℕ → Reply
fault_reply line = record { status = Input; text = line }

-- the reply is due: the answer of the words' job, or the fault that ends it, or the usage text where the words are no job
pub data Due (words : List (List ℕ)) (files : Files) : Reply → Type 0 where
  answer : (job : Job) {reply : Reply} → JobOf words job → job_due files job (Ok reply) → Due words files reply
  fault : (job : Job) {line : List ℕ} → JobOf words job → job_due files job (Err line) → Due words files (fault_reply line)
  usage : ((job : Job) → JobOf words job → ⊥) → Due words files usage_reply
