use Rattle.answer_writer.specs.Document.{document}
use Rattle.bfgp_jobs.proofs.Searches.{answer_is_due, answer_verdict}
use Rattle.bfgp_jobs.proofs.synth.answer.Goals as goal

pub returns-clause-due : goal.returns-clause-due
returns-clause-due c =
    answer_is_due c.args.machine.now c.args.bounds.now c.in_ok-search_over.field-0.answer c.in_ok-search_over.field-0.names c.of_document.result c.in_ok-search_over.ensures.answer c.in_ok-search_over.ensures.names c.of_document.ensures

pub returns-clause-verdict : goal.returns-clause-verdict
returns-clause-verdict c =
    answer_verdict c.in_ok-search_over.field-0.answer.outcome (document c.in_ok-search_over.field-0.names c.in_ok-search_over.field-0.answer) c.of_document.result c.of_document.ensures
