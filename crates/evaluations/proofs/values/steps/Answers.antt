use Rattle.std.proofs.Common.{◌≤◌, ◌*◌, length, rules, arith}
use Rattle.std.specs.Prelude.{sum_by}
use Rattle.std.proofs.lemmas.Iterator.{YieldsList-from_slice, YieldsList-from_map}
use Rattle.std.proofs.lemmas.Iterator.Consumers.{YieldsList-at, fits_by_from_yields_list}
use Rattle.std.proofs.lemmas.List.Sums.{sum_by-le}
use Rattle.evaluations.specs.declared.standing.Standing.{Standing}
use Rattle.evaluations.proofs.values.steps.Goals as goal

pub sum-requires-clause-fits : goal.sum-requires-clause-fits
sum-requires-clause-fits c =
    let standings = c.args.standings.now in
    let steps = λ (standing : Standing). standing.steps in
    let most : sum_by steps standings ≤ length standings * 10000000 = sum_by-le steps 10000000 standings c.requires.short in
    fits_by_from_yields_list steps standings c.map.result _
    (YieldsList-from_map _ steps (YieldsList-at c.map.ensures.source (YieldsList-from_slice standings (cc))) c.map.ensures.closure (λ x r q k. search rules))
    (omega (arith, most, c.requires.few))
