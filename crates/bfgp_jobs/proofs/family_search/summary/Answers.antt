use Rattle.summary_writer.specs.Summary.{summary}
use Rattle.bfgp_jobs.proofs.Searches.{summary_is_due, answer_verdict, bounds_within}
use Rattle.bfgp_jobs.proofs.family_search.summary.Goals as goal

pub search_over-requires-clause-bounds : goal.search_over-requires-clause-bounds
search_over-requires-clause-bounds c = bounds_within c.args.sample.family c.args.bounds.now c.requires.bounds

pub returns-clause-due : goal.returns-clause-due
returns-clause-due c =
    let sample = c.args.sample in
    summary_is_due (record { family = sample.family; number = sample.number }) c.args.machine.now c.args.bounds.now c.in_ok-search_over.field-0.answer c.in_ok-search_over.field-0.names c.of_summary.result c.requires.bounds c.in_ok-search_over.ensures.answer c.in_ok-search_over.ensures.names c.of_summary.ensures

pub returns-clause-verdict : goal.returns-clause-verdict
returns-clause-verdict c =
    let sample = c.args.sample in
    answer_verdict c.in_ok-search_over.field-0.answer.outcome (summary c.in_ok-search_over.field-0.names sample.family sample.number c.in_ok-search_over.field-0.answer) c.of_summary.result c.of_summary.ensures
