use Rattle.std.proofs.Common.{◌∙◌}
use Rattle.bfgp_jobs.proofs.Searches.{answer_is_grammatical}
use Rattle.bfgp_jobs.proofs.searching.search_over.Goals as goal

pub build-requires : goal.build-requires
build-requires c = rw c.in_ok-texts.ensures c.requires.names

pub returns-clause-names : goal.returns-clause-names
returns-clause-names c = c.in_ok-names.ensures ∙ c.in_ok-texts.ensures

pub returns-clause-grammar : goal.returns-clause-grammar
returns-clause-grammar c =
    answer_is_grammatical c.args.machine.now c.args.bounds.now c.in_ok-answer.answer c.in_ok-names.names c.requires.names c.requires.pointers c.requires.instances c.requires.bounds c.in_ok-answer.ensures.answer (c.in_ok-names.ensures ∙ c.in_ok-texts.ensures)
