-- Statuses, case by case.
use Rattle.std.proofs.Common.{◌≡◌, ◌≢◌, ℕ, ◌≤◌, List, Option, Bool, true, false, refl, subst, arith}
use Rattle.bfgp_outside.specs.Causes.{Rose, RoseIf}
use Rattle.bfgp_jobs.specs.declared.status.Status.{Status}
use Rattle.bfgp_jobs.specs.declared.status.Status.TheVariants.{Done, No, Usage, Input, SpentExpansions, SpentRun, ReadFault, WriteFault, OutOfMemory}
use Rattle.bfgp_jobs.specs.Reply.{Reply}
use Rattle.bfgp_jobs.specs.Answers.{AreSearch, IsAnswerStatus, IsSpent, TellsOfFile}
use Rattle.bfgp_jobs.specs.Inner.Replying.{IsReplyStatus, Writes, is_write_fault}

-- the status of an answer is one of a reply
pub verdict_replies : (status : Status) → IsAnswerStatus status → IsReplyStatus status
verdict_replies Done verdict = tt
verdict_replies No verdict = tt
verdict_replies SpentExpansions verdict = tt
verdict_replies SpentRun verdict = tt
verdict_replies Usage verdict = tt
verdict_replies Input verdict = tt
verdict_replies ReadFault verdict = absurd verdict
verdict_replies WriteFault verdict = absurd verdict
verdict_replies OutOfMemory verdict = absurd verdict

-- it is not that of a fault
pub verdict_no_input : (status : Status) → IsAnswerStatus status → status ≡ Input → ⊥
verdict_no_input Done verdict is = absurd (cc)
verdict_no_input No verdict is = absurd (cc)
verdict_no_input SpentExpansions verdict is = absurd (cc)
verdict_no_input SpentRun verdict is = absurd (cc)
verdict_no_input Usage verdict is = absurd verdict
verdict_no_input Input verdict is = absurd verdict
verdict_no_input ReadFault verdict is = absurd verdict
verdict_no_input WriteFault verdict is = absurd verdict
verdict_no_input OutOfMemory verdict is = absurd verdict

-- nor that of usage
pub verdict_no_usage : (status : Status) → IsAnswerStatus status → status ≡ Usage → ⊥
verdict_no_usage Done verdict is = absurd (cc)
verdict_no_usage No verdict is = absurd (cc)
verdict_no_usage SpentExpansions verdict is = absurd (cc)
verdict_no_usage SpentRun verdict is = absurd (cc)
verdict_no_usage Usage verdict is = absurd verdict
verdict_no_usage Input verdict is = absurd verdict
verdict_no_usage ReadFault verdict is = absurd verdict
verdict_no_usage WriteFault verdict is = absurd verdict
verdict_no_usage OutOfMemory verdict is = absurd verdict

-- nor that of a write fault
pub verdict_no_write : (status : Status) → IsAnswerStatus status → status ≡ WriteFault → ⊥
verdict_no_write Done verdict is = absurd (cc)
verdict_no_write No verdict is = absurd (cc)
verdict_no_write SpentExpansions verdict is = absurd (cc)
verdict_no_write SpentRun verdict is = absurd (cc)
verdict_no_write Usage verdict is = absurd verdict
verdict_no_write Input verdict is = absurd verdict
verdict_no_write ReadFault verdict is = absurd verdict
verdict_no_write WriteFault verdict is = absurd verdict
verdict_no_write OutOfMemory verdict is = absurd verdict

-- nor does it tell of a file
pub verdict_no_file : (status : Status) → IsAnswerStatus status → TellsOfFile status → ⊥
verdict_no_file Done verdict tells = tells
verdict_no_file No verdict tells = tells
verdict_no_file SpentExpansions verdict tells = tells
verdict_no_file SpentRun verdict tells = tells
verdict_no_file Usage verdict tells = tells
verdict_no_file Input verdict tells = absurd verdict
verdict_no_file ReadFault verdict tells = absurd verdict
verdict_no_file WriteFault verdict tells = tells
verdict_no_file OutOfMemory verdict tells = tells

-- the status of a reply tells no write fault
pub reply_kept : (status : Status) (faults faults_now : ℕ) → IsReplyStatus status → faults_now ≡ faults → RoseIf (is_write_fault status) faults faults_now
reply_kept Done faults faults_now replies kept = kept
reply_kept No faults faults_now replies kept = kept
reply_kept Usage faults faults_now replies kept = kept
reply_kept Input faults faults_now replies kept = kept
reply_kept SpentExpansions faults faults_now replies kept = kept
reply_kept SpentRun faults faults_now replies kept = kept
reply_kept ReadFault faults faults_now replies kept = absurd replies
reply_kept WriteFault faults faults_now replies kept = absurd replies
reply_kept OutOfMemory faults faults_now replies kept = absurd replies

-- no other status than a write fault comes with a write that failed
pub writes_kept : (status : Status) (faults faults_now : ℕ) → RoseIf (is_write_fault status) faults faults_now → status ≢ WriteFault → faults_now ≡ faults
writes_kept Done faults faults_now rose other = rose
writes_kept No faults faults_now rose other = rose
writes_kept Usage faults faults_now rose other = rose
writes_kept Input faults faults_now rose other = rose
writes_kept SpentExpansions faults faults_now rose other = rose
writes_kept SpentRun faults faults_now rose other = rose
writes_kept ReadFault faults faults_now rose other = rose
writes_kept WriteFault faults faults_now rose other = absurd (other refl)
writes_kept OutOfMemory faults faults_now rose other = rose

pub writes_rose : (status : Status) (faults faults_now : ℕ) → RoseIf (is_write_fault status) faults faults_now → status ≡ WriteFault → Rose faults faults_now
writes_rose status faults faults_now rose is = let told : RoseIf true faults faults_now = subst (λ (s : Status). RoseIf (is_write_fault s) faults faults_now) is rose in told.1

-- a count that rose or stands still never falls
pub never_falls : (told : Bool) (count count_now : ℕ) → RoseIf told count count_now → count ≤ count_now
never_falls true count count_now rose = rose.0
never_falls false count count_now kept = omega (arith, kept)

-- what is written has the status of its reply, where that is one of a search that spent something
pub spent_written : (words : List (List ℕ)) (reply : Reply) (status : Status) (old new : Option (List ℕ)) → Writes reply status old new → (IsSpent reply.status → AreSearch words) → IsSpent status → AreSearch words
spent_written words reply status old new writes only spent =
    let same = writes.whole (λ fault. subst IsSpent fault spent) in
    only (subst IsSpent same.0 spent)

-- what is written of an answer does not tell of a file
pub no_file_written : (reply : Reply) (status : Status) (old new : Option (List ℕ)) → Writes reply status old new → IsAnswerStatus reply.status → TellsOfFile status → ⊥
no_file_written reply status old new writes verdict tells =
    let same = writes.whole (λ fault. subst TellsOfFile fault tells) in
    verdict_no_file reply.status verdict (subst TellsOfFile same.0 tells)
