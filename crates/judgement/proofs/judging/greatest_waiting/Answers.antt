use Rattle.std.proofs.Common.{◌∙◌, sym, rules, tests}
use Rattle.std.proofs.lemmas.Iterator.{YieldsList-from_slice}
use Rattle.std.proofs.lemmas.Iterator.Adapters.{option_map_id}
use Rattle.std.proofs.lemmas.Iterator.Consumers.{YieldsList-at, YieldsList-from_filter_map, max_from_yields_List}
use Rattle.evaluations.specs.declared.standing.Standing.{Standing}
use Rattle.judgement.proofs.judging.greatest_waiting.Goals as goal

pub returns : goal.returns
returns c =
    let standings = c.args.standings.now.items in
    let waits = λ (standing : Standing). standing.waits in
    sym (option_map_id c.max.result)
    ∙ max_from_yields_List c.filter_map.result c.max.result c.max.ensures.ran
    (YieldsList-from_filter_map _ waits (YieldsList-at c.filter_map.ensures.source (YieldsList-from_slice standings (cc))) c.filter_map.ensures.closure (λ x r q k. search (rules, tests)))
