use Rattle.bfgp_jobs.proofs.Written.{with_words}
use Rattle.bfgp_jobs.proofs.process.run_process.Goals as goal

pub returns-in-Ok-clause-headline : goal.returns-in-Ok-clause-headline
returns-in-Ok-clause-headline g c = with_words c.args.words c.in-Ok.words _ c.in-Ok.is (c.bfgp.result, c.exit_code.ensures, rw (← c.deref.ensures.value) c.bfgp.ensures.headline)

pub returns-in-Ok-clause-check_accepts : goal.returns-in-Ok-clause-check_accepts
returns-in-Ok-clause-check_accepts g c = with_words c.args.words c.in-Ok.words _ c.in-Ok.is (c.bfgp.result, c.exit_code.ensures, rw (← c.deref.ensures.value) c.bfgp.ensures.check_accepts)

pub returns-in-Ok-clause-due : goal.returns-in-Ok-clause-due
returns-in-Ok-clause-due g c = with_words c.args.words c.in-Ok.words _ c.in-Ok.is (c.bfgp.result, c.exit_code.ensures, rw (← c.deref.ensures.value) c.bfgp.ensures.due)

pub returns-in-Ok-clause-family : goal.returns-in-Ok-clause-family
returns-in-Ok-clause-family g c = with_words c.args.words c.in-Ok.words _ c.in-Ok.is (rw (← c.deref.ensures.value) (λ family. (c.bfgp.result, c.exit_code.ensures, c.bfgp.ensures.family family)))
