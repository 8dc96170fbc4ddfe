use Rattle.std.proofs.Common.{map, string_bytes}
use Rattle.command_words.proofs.OneJob.{job_kept}
use Rattle.bfgp_jobs.proofs.Outcomes.{job_known, usage_known, job_usage, job_input, job_status, job_spent, usage_unspent, job_reads, named_asked, none_asked, job_without_files, usage_no_family}
use Rattle.bfgp_jobs.proofs.replying.reply_to_words.Goals as goal

pub job_outcome-requires : goal.job_outcome-requires
job_outcome-requires g c = job_kept (map string_bytes c.args.words.now) c.in-Ok.job c.in-Ok.ensures

pub returns-in-Ok-clause-due : goal.returns-in-Ok-clause-due
returns-in-Ok-clause-due g c =
    job_known (g.S.Shelf.files c.args.shelf.now) (map string_bytes c.args.words.now) c.in-Ok.job c.job_outcome.result c.tell.result c.in-Ok.ensures c.tell.ensures c.job_outcome.ensures.due

pub returns-in-Ok-clause-usage : goal.returns-in-Ok-clause-usage
returns-in-Ok-clause-usage g c =
    job_usage (map string_bytes c.args.words.now) c.in-Ok.job c.job_outcome.result c.tell.result c.in-Ok.ensures c.tell.ensures c.job_outcome.ensures.verdict

pub returns-in-Ok-clause-input : goal.returns-in-Ok-clause-input
returns-in-Ok-clause-input g c =
    job_input _ _ c.job_outcome.result c.tell.result c.tell.ensures c.job_outcome.ensures.verdict c.job_outcome.ensures.cause

pub returns-in-Ok-clause-status : goal.returns-in-Ok-clause-status
returns-in-Ok-clause-status g c =
    job_status c.job_outcome.result c.tell.result c.tell.ensures c.job_outcome.ensures.verdict

pub returns-in-Ok-clause-reads : goal.returns-in-Ok-clause-reads
returns-in-Ok-clause-reads g c =
    job_reads _ _ c.job_outcome.result c.tell.result c.tell.ensures c.job_outcome.ensures.reads

pub returns-in_ok-usage-in-Err-Usage-clause-due : goal.returns-in_ok-usage-in-Err-Usage-clause-due
returns-in_ok-usage-in-Err-Usage-clause-due g c =
    let none = rw c.in-Err-Usage.field-0-is at c.in-Err-Usage.ensures in
    usage_known (g.S.Shelf.files c.args.shelf.now) (map string_bytes c.args.words.now) c.in_ok-usage-in-Err-Usage.field-0 none c.in_ok-usage-in-Err-Usage.ensures

pub returns-in-Ok-clause-asks : goal.returns-in-Ok-clause-asks
returns-in-Ok-clause-asks g c = named_asked (map string_bytes c.args.words.now) c.in-Ok.job _ _ c.in-Ok.ensures c.job_outcome.ensures.asks

pub returns-in-Err-OutOfMemory-clause-asks : goal.returns-in-Err-OutOfMemory-clause-asks
returns-in-Err-OutOfMemory-clause-asks g c = none_asked (map string_bytes c.args.words.now) (g.S.Shelf.asked c.args.shelf.now)

pub returns-in-Ok-clause-spent : goal.returns-in-Ok-clause-spent
returns-in-Ok-clause-spent g c =
    job_spent (map string_bytes c.args.words.now) c.in-Ok.job c.job_outcome.result c.tell.result c.in-Ok.ensures c.tell.ensures c.job_outcome.ensures.spent

pub returns-in_ok-usage-in-Err-Usage-clause-spent : goal.returns-in_ok-usage-in-Err-Usage-clause-spent
returns-in_ok-usage-in-Err-Usage-clause-spent g c = usage_unspent (map string_bytes c.args.words.now) c.in_ok-usage-in-Err-Usage.field-0 c.in_ok-usage-in-Err-Usage.ensures

pub returns-in-Ok-clause-family : goal.returns-in-Ok-clause-family
returns-in-Ok-clause-family g c =
    job_without_files (map string_bytes c.args.words.now) c.in-Ok.job c.job_outcome.result c.tell.result c.in-Ok.ensures c.tell.ensures c.job_outcome.ensures.verdict c.job_outcome.ensures.family

pub returns-in_ok-usage-in-Err-Usage-clause-family : goal.returns-in_ok-usage-in-Err-Usage-clause-family
returns-in_ok-usage-in-Err-Usage-clause-family g c =
    let none = rw c.in-Err-Usage.field-0-is at c.in-Err-Usage.ensures in
    usage_no_family (map string_bytes c.args.words.now) _ none
