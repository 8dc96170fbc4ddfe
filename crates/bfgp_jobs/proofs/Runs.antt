-- The last steps of `run`.
use Rattle.std.proofs.Common.{◌≡◌, ℕ, Bool, true, false, List, Result, Ok, sym, ◌∙◌, ap, subst}
use Rattle.std.proofs.lemmas.List.{length-map}
use Rattle.program_model.specs.Program.{Program, IsProgram}
use Rattle.program_text.specs.Reading.{Reads}
use Rattle.pointer_machine.specs.Machine.{MachineParts, meaning_of}
use Rattle.pointer_machine.specs.Operations.{operations_of}
use Rattle.pointer_machine.specs.Texts.{form_text, operation_texts}
use Rattle.instance_report.specs.declared.answer.Report.{Report}
use Rattle.instance_report.specs.Report.{IsReport}
use Rattle.bfgp_jobs.specs.Reply.{Reply}
use Rattle.input_reading.specs.declared.halt.Halt.{Halt}
use Rattle.bfgp_jobs.specs.declared.status.Status.{Status}
use Rattle.input_reading.specs.Steps.{Gives}
use Rattle.input_reading.specs.Inputs.{program_due}
use Rattle.bfgp_jobs.specs.Due.{report_due, report_status}
use Rattle.bfgp_jobs.specs.Answers.{IsAnswerStatus, IsSpent}

-- the program by slices of the name and of the bytes
pub program_at : (machine : MachineParts) (name slice_of_name bytes slice : List ℕ) (r : Result Program Halt) → slice_of_name ≡ name → slice ≡ bytes → Gives (program_due machine slice_of_name slice) r → Gives (program_due machine name bytes) r
program_at machine name slice_of_name bytes slice r same_name same here =
    subst (λ (b : List ℕ). Gives (program_due machine name b) r) same (subst (λ (n : List ℕ). Gives (program_due machine n slice) r) same_name here)

-- a program that is read is one over the operations of the machine
pub program_over : (machine : MachineParts) (bytes : List ℕ) (program : Program) → Reads (operation_texts machine.task machine.pointers) bytes (Ok program) → IsProgram (meaning_of machine).ops program
program_over machine bytes program reads =
    subst (λ (ops : ℕ). IsProgram ops program) (length-map (operations_of machine.task machine.pointers) (form_text machine.task)) reads.is_program

-- the reply with the report of a program's runs
pub report_is_due : (machine : MachineParts) (limit : ℕ) (program : Program) (report : Report) (status : Status) (reply : Reply) → IsReport (meaning_of machine) program limit report → status ≡ report_status report.all_solved
    → reply ≡ record { status = status; text = report.text } → report_due machine limit program (Ok reply)
report_is_due machine limit program report status reply is status_is reply_is = (report, is, reply_is ∙ λ i. record { status = status_is i; text = report.text })

report_verdict : (all_solved : Bool) → IsAnswerStatus (report_status all_solved)
report_verdict true = tt
report_verdict false = tt

pub reported_verdict : (all_solved : Bool) (status : Status) (text : List ℕ) (reply : Reply) → status ≡ report_status all_solved → reply ≡ record { status = status; text = text } → IsAnswerStatus reply.status
reported_verdict all_solved status text reply status_is is = subst IsAnswerStatus (sym (ap (λ (r : Reply). r.status) is ∙ status_is)) (report_verdict all_solved)

pub reported_unspent : (all_solved : Bool) (status : Status) (text : List ℕ) (reply : Reply) → status ≡ report_status all_solved → reply ≡ record { status = status; text = text } → IsSpent reply.status → ⊥
reported_unspent all_solved status text reply status_is is spent = report_unspent all_solved (subst IsSpent (ap (λ (r : Reply). r.status) is ∙ status_is) spent)
  where
    report_unspent : (b : Bool) → IsSpent (report_status b) → ⊥
    report_unspent true spent = spent
    report_unspent false spent = spent
