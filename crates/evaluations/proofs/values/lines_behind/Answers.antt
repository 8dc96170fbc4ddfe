use Rattle.std.proofs.Common.{◌≡◌, ◌∙◌, sym, ap, max, rules, tests, arith}
use Rattle.std.specs.Prelude.{filter_map, unwrap_or}
use Rattle.std.specs.List.{reduce}
use Rattle.std.proofs.lemmas.Iterator.{YieldsList-from_slice}
use Rattle.std.proofs.lemmas.Iterator.Adapters.{option_map_id}
use Rattle.std.proofs.lemmas.Iterator.Consumers.{YieldsList-at, YieldsList-from_filter_map, max_from_yields_List}
use Rattle.evaluations.specs.declared.standing.Standing.{Standing}
use Rattle.evaluations.specs.Evaluations.{greatest_waiting}
use Rattle.evaluations.proofs.Greatest.{greatest_or_none}
use Rattle.evaluations.proofs.values.lines_behind.Goals as goal

pub returns : goal.returns
returns c =
    let standings = c.args.standings.now in
    let waits = λ (standing : Standing). standing.waits in
    let lines = filter_map waits standings in
    let found : c.max.result ≡ reduce max lines =
    sym (option_map_id c.max.result)
    ∙ max_from_yields_List c.filter_map.result c.max.result c.max.ensures.ran
    (YieldsList-from_filter_map _ waits (YieldsList-at c.filter_map.ensures.source (YieldsList-from_slice standings (cc))) c.filter_map.ensures.closure (λ x r q k. search (rules, tests))) in
    let greatest : c.unwrap_or-waiting.result ≡ greatest_waiting standings =
    c.unwrap_or-waiting.ensures ∙ ap (λ o. unwrap_or o 0) found ∙ greatest_or_none lines in
    omega (arith, greatest, c.lines-last.ensures.count, c.saturating_sub.ensures, c.from.ensures)
