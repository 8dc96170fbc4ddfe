use Rattle.bfgp_jobs.proofs.WithoutFiles.{gen_known, gen_cause, gen_reads}
use Rattle.bfgp_jobs.proofs.replying.job_outcome.Goals as goal

pub returns-in-Gen-clause-due : goal.returns-in-Gen-clause-due
returns-in-Gen-clause-due g c = gen_known (g.S.Shelf.files c.args.shelf.now) c.args.job.now c.in-Gen.job c.search_family.result c.in-Gen.is c.search_family.ensures.due

pub returns-in-Gen-clause-cause : goal.returns-in-Gen-clause-cause
returns-in-Gen-clause-cause g c = gen_cause (g.S.Shelf.absences c.args.shelf.now) c.search_family.result c.search_family.ensures.cause

pub returns-in-Gen-clause-reads : goal.returns-in-Gen-clause-reads
returns-in-Gen-clause-reads g c = gen_reads (g.S.Shelf.faults c.args.shelf.now) c.search_family.result c.search_family.ensures.cause
