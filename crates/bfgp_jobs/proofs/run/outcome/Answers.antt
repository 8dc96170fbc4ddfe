use Rattle.bfgp_jobs.proofs.Runs.{report_is_due, reported_verdict, reported_unspent}
use Rattle.bfgp_jobs.proofs.run.outcome.Goals as goal

pub returns-clause-due : goal.returns-clause-due
returns-clause-due c =
    report_is_due c.args.machine.now c.args.limit c.args.program.now c.in_ok-report.report c.status_of.result c.of_text.result c.in_ok-report.ensures.reports c.status_of.ensures c.of_text.ensures

pub returns-clause-verdict : goal.returns-clause-verdict
returns-clause-verdict c =
    reported_verdict c.in_ok-report.report.all_solved c.status_of.result c.in_ok-report.report.text c.of_text.result c.status_of.ensures c.of_text.ensures

pub returns-clause-unspent : goal.returns-clause-unspent
returns-clause-unspent c =
    reported_unspent c.in_ok-report.report.all_solved c.status_of.result c.in_ok-report.report.text c.of_text.result c.status_of.ensures c.of_text.ensures
