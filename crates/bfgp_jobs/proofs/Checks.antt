-- The last step of `check`.
use Rattle.std.proofs.Common.{◌≡◌, ℕ, Bool, true, false, List, Option, Some, None, Result, Ok, Err, refl, sym, ◌∙◌, ap, subst}
use Rattle.std.specs.Prelude.{◌↔◌, IsTrue, IsSomeAnd, if◌then◌else◌, length}
use Rattle.std.proofs.lemmas.List.{length-map}
use Rattle.std.proofs.lemmas.Bool.{false≢true}
use Rattle.bfgp_outside.specs.Shelf.{Files, Knowing, Told}
use Rattle.bfgp_outside.specs.Whole.{whole_of}
use Rattle.bfgp_outside.specs.declared.whole.ReadRefusal.{ReadRefusal}
use Rattle.program_text.specs.Names.{AreNames}
use Rattle.pointer_machine.specs.Machine.{MachineParts, meaning_of}
use Rattle.pointer_machine.specs.Operations.{operations_of}
use Rattle.pointer_machine.specs.Texts.{form_text, operation_texts}
use Rattle.document_check.specs.Documents.{IsAcceptedDocument as IsAcceptedFor}
use Rattle.document_check.specs.Files.{IsVerdictOn}
use Rattle.command_words.specs.declared.job.CheckJob.{CheckJob}
use Rattle.refutation_tree.specs.declared.evidence.Answer.{Answer}
use Rattle.answer_reader.specs.Reading.{IsDocument}
use Rattle.answer_reader.proofs.Said.{reads_one}
use Rattle.input_reading.specs.declared.fault.Fault.{Fault}
use Rattle.input_reading.specs.declared.halt.Halt.{Halt}
use Rattle.input_reading.specs.declared.halt.Halt.TheVariants.{Refused, ReadFault, OutOfMemory}
use Rattle.input_reading.specs.Faults.{Tells, fault_line, reading_fault}
use Rattle.input_reading.specs.Inputs.{file_due}
use Rattle.input_reading.specs.Inner.Telling.{IsTelling}
use Rattle.input_reading.specs.Steps.{◌>>=◌, goes_on, ends, Gives}
use Rattle.bfgp_jobs.specs.Inner.Telling.{TellsAccepted}
use Rattle.bfgp_jobs.proofs.Sequels.{after_document, after_machine}
use Rattle.bfgp_jobs.specs.Reply.{Reply}
use Rattle.bfgp_jobs.specs.Due.{IsAcceptedDocument, VerdictDue, accepted, rejected, accepted_reply, rejected_reply}

-- bytes are the document of one answer at most
pub one_document : (texts : List (List ℕ)) (bytes : List ℕ) (one other : Answer) → AreNames texts → IsDocument texts bytes one → IsDocument texts bytes other → one ≡ other
one_document texts bytes one other named says says_too =
    let same = reads_one texts bytes (Ok one) (Ok other) named says says_too (λ is. absurd (cc)) (λ is. absurd (cc)) in cc

-- the reply that is due where it is known whether the bytes are accepted
pub verdict_due : (machine : MachineParts) (lines : ℕ) (bytes : List ℕ) (told : Bool) (reply : Reply) → IsTrue told ↔ IsAcceptedDocument machine lines bytes → reply ≡ (if told then accepted_reply else rejected_reply) → VerdictDue machine lines bytes (Ok reply)
verdict_due machine lines bytes true reply exactly is = subst (λ (r : Reply). VerdictDue machine lines bytes (Ok r)) (sym is) (accepted (exactly.0 refl))
verdict_due machine lines bytes false reply exactly is = subst (λ (r : Reply). VerdictDue machine lines bytes (Ok r)) (sym is) (rejected (λ yes. false≢true (exactly.1 yes)))

-- there are as many texts as operations
pub as_many_texts : (machine : MachineParts) (names : List (List ℕ)) → names ≡ operation_texts machine.task machine.pointers → length names ≡ (meaning_of machine).ops
as_many_texts machine names are = ap length are ∙ length-map (operations_of machine.task machine.pointers) (form_text machine.task)

-- what a checker tells of a file is told of the file that is due
pub tells_accepted : (machine now : MachineParts) (texts : List (List ℕ)) (lines lines_now limit : ℕ) (told : Option Files) (file name : List ℕ) (verdict : Bool) → now ≡ machine → texts ≡ operation_texts machine.task machine.pointers → lines_now ≡ lines → name ≡ file
    → IsVerdictOn (meaning_of now) texts lines_now told name limit verdict → Knowing told (λ (files : Files). TellsAccepted machine lines (file_due files limit file) verdict)
tells_accepted machine now texts lines lines_now limit None file name verdict same texts_are lines_are name_is it = tt
tells_accepted machine now texts lines lines_now limit (Some files) file name verdict same texts_are lines_are name_is it = record {
  bytes = it.bytes;
  read = subst (λ (n : List ℕ). file_due files limit n (Ok it.bytes)) name_is (sym it.held);
  exactly = subst (λ (n : ℕ). IsTrue verdict ↔ IsAcceptedFor (meaning_of machine) (operation_texts machine.task machine.pointers) n it.bytes) lines_are
      (subst (λ (t : List (List ℕ)). IsTrue verdict ↔ IsAcceptedFor (meaning_of machine) t lines_now it.bytes) texts_are
      (subst (λ (m : MachineParts). IsTrue verdict ↔ IsAcceptedFor (meaning_of m) texts lines_now it.bytes) same it.exactly));
}

-- after that the reply is due
pub reply_due : (told : Option Files) (job : CheckJob) (limit : ℕ) (machine : MachineParts) (verdict : Bool) (reply : Reply) → Knowing told (λ (files : Files). TellsAccepted machine job.lines (file_due files limit job.answer) verdict)
    → reply ≡ (if verdict then accepted_reply else rejected_reply) → Knowing told (λ (files : Files). Gives (after_machine limit job.answer (after_document job) files machine) (Ok reply))
reply_due None job limit machine verdict reply tells is = tt
reply_due (Some files) job limit machine verdict reply tells is = goes_on tells.read (verdict_due machine job.lines tells.bytes verdict reply tells.exactly is)

-- at a fault of the file too
pub file_fault_due : (told : Option Files) (job : CheckJob) (limit : ℕ) (machine : MachineParts) (halt : Halt) → Knowing told (λ (files : Files). Gives (file_due files limit job.answer) (Err halt))
    → Knowing told (λ (files : Files). Gives (after_machine limit job.answer (after_document job) files machine) (Err halt))
file_fault_due None job limit machine halt due = tt
file_fault_due (Some files) job limit machine (Refused line) due = ends due
file_fault_due (Some files) job limit machine ReadFault due = tt
file_fault_due (Some files) job limit machine OutOfMemory due = tt

-- a refusal of the file is the line of its fault
pub fault_due : (told : Option Files) (limit : ℕ) (name : List ℕ) (refusal : ReadRefusal) (fault : Fault) (halt : Halt) → reading_fault refusal ≡ Some fault → Told told name (λ held. whole_of held limit ≡ Err refusal) → IsTelling name fault halt
    → Knowing told (λ (files : Files). Gives (file_due files limit name) (Err halt))
fault_due None limit name refusal fault halt is held tells = tt
fault_due (Some files) limit name refusal fault (Refused line) is held tells = (refusal, sym held, subst (λ (f : Option Fault). IsSomeAnd f (λ (of : Fault). line ≡ fault_line name of)) (sym is) tells)
fault_due (Some files) limit name refusal fault ReadFault is held tells = tt
fault_due (Some files) limit name refusal fault OutOfMemory is held tells = tt
