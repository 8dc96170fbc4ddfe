-- A reply that was written.
use Rattle.std.proofs.Common.{◌≡◌, ◌≢◌, ℕ, List, Option, Result, Ok, refl, sym, subst}
use Rattle.std.specs.Prelude.{IfOk}
use Rattle.bfgp_jobs.specs.Reply.{Reply}
use Rattle.bfgp_jobs.specs.declared.status.Status.{Status}
use Rattle.bfgp_jobs.specs.declared.status.Status.TheVariants.{Done, No, Usage, Input, SpentExpansions, SpentRun, ReadFault, WriteFault, OutOfMemory}
use Rattle.bfgp_jobs.specs.Answers.{Answers, Replied}
use Rattle.bfgp_jobs.specs.Inner.Replying.{IsReplyStatus, Writes}

replied : (due : Reply → Type 0) (reply : Reply) (status : Status) (old new : Option (List ℕ)) → status ≢ WriteFault → due reply → Writes reply status old new → Replied due status old new
replied due reply status old new whole is writes = let wrote = writes.whole whole in record { reply = reply; due_reply = is; status_is = wrote.0; appended = wrote.1 }

-- a status that replies do not have is not that of a reply
never : (reply : Reply) (status : Status) (old new : Option (List ℕ)) → status ≢ WriteFault → IsReplyStatus reply.status → Writes reply status old new → IsReplyStatus status
never reply status old new whole final writes = subst IsReplyStatus (sym (writes.whole whole).0) final

-- what was written of a reply that is due is what is due
pub written_due : (due : Reply → Type 0) (reply : Reply) (status : Status) (old new : Option (List ℕ)) → due reply → IsReplyStatus reply.status → Writes reply status old new → Answers due status old new
written_due due reply Done old new is final writes = replied due reply Done old new (λ e. cc) is writes
written_due due reply No old new is final writes = replied due reply No old new (λ e. cc) is writes
written_due due reply Usage old new is final writes = replied due reply Usage old new (λ e. cc) is writes
written_due due reply Input old new is final writes = replied due reply Input old new (λ e. cc) is writes
written_due due reply SpentExpansions old new is final writes = replied due reply SpentExpansions old new (λ e. cc) is writes
written_due due reply SpentRun old new is final writes = replied due reply SpentRun old new (λ e. cc) is writes
written_due due reply ReadFault old new is final writes = absurd (never reply ReadFault old new (λ e. cc) final writes)
written_due due reply WriteFault old new is final writes = record { reply = reply; due_reply = is; appended = (writes.part refl) }
written_due due reply OutOfMemory old new is final writes = absurd (never reply OutOfMemory old new (λ e. cc) final writes)

-- what holds of the words of a process that got them
pub with_words : {W E : Type 0} (got : Result W E) (words : W) (P : W → Type 0) → got ≡ Ok words → P words → IfOk got P
with_words {W} {E} got words P is here = subst (λ (r : Result W E). IfOk r P) (sym is) here
