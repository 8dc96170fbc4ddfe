use Rattle.std.proofs.Common.{ℕ, List, Bool, refl}
use Rattle.bfgp_outside.specs.declared.whole.ReadRefusal.TheVariants as reads
use Rattle.input_reading.specs.declared.fault.Fault.TheVariants.{Absent, TooLong}
use Rattle.input_reading.proofs.Chain.{telling_cause, telling_reads}
use Rattle.bfgp_jobs.specs.declared.check.TheConstants.{MAX_DOCUMENT_BYTES}
use Rattle.bfgp_jobs.proofs.Checks.{fault_due}
use Rattle.bfgp_jobs.proofs.check.judge_file.Goals as goal

pub returns-in-Err-Absent-clause-cause : goal.returns-in-Err-Absent-clause-cause
returns-in-Err-Absent-clause-cause g c =
    let counts = rw c.in-Err-Absent.field-0-is at c.in-Err-Absent.ensures.counts in
    telling_cause _ _ c.args.name.now Absent c.tell.result c.tell.ensures (λ is. counts.absent.1)

pub returns-in-Err-TooLong-clause-cause : goal.returns-in-Err-TooLong-clause-cause
returns-in-Err-TooLong-clause-cause g c =
    telling_cause _ _ c.args.name.now TooLong c.tell-in-Err-TooLong.result c.tell-in-Err-TooLong.ensures (λ is. absurd (cc))

pub returns-in-Err-Absent-clause-reads : goal.returns-in-Err-Absent-clause-reads
returns-in-Err-Absent-clause-reads g c =
    let counts = rw c.in-Err-Absent.field-0-is at c.in-Err-Absent.ensures.counts in
    telling_reads Bool c.args.name.now Absent c.tell.result _ _ c.tell.ensures counts.failed

pub returns-in-Err-TooLong-clause-reads : goal.returns-in-Err-TooLong-clause-reads
returns-in-Err-TooLong-clause-reads g c =
    let counts = rw c.in-Err-TooLong.field-0-is at c.in-Err-TooLong.ensures.counts in
    telling_reads Bool c.args.name.now TooLong c.tell-in-Err-TooLong.result _ _ c.tell-in-Err-TooLong.ensures counts.failed

pub returns-in-Err-Absent-clause-due : goal.returns-in-Err-Absent-clause-due
returns-in-Err-Absent-clause-due g c =
    fault_due (g.S.Shelf.files c.args.shelf.now) MAX_DOCUMENT_BYTES c.args.name.now reads.Absent Absent c.tell.result refl (rw c.in-Err-Absent.field-0-is at c.in-Err-Absent.ensures.refused) c.tell.ensures

pub returns-in-Err-TooLong-clause-due : goal.returns-in-Err-TooLong-clause-due
returns-in-Err-TooLong-clause-due g c =
    fault_due (g.S.Shelf.files c.args.shelf.now) MAX_DOCUMENT_BYTES c.args.name.now reads.TooLong TooLong c.tell-in-Err-TooLong.result refl (rw c.in-Err-TooLong.field-0-is at c.in-Err-TooLong.ensures.refused) c.tell-in-Err-TooLong.ensures
