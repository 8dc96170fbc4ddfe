use Rattle.std.proofs.Common.{◌≡◌, ◌∙◌, length, take, ap, arith}
use Rattle.std.proofs.lemmas.List.{length-map, length-take}
use Rattle.evaluations.specs.Evaluations.{value}
use Rattle.evaluations.proofs.node_key.key.Goals as goal

pub push-requires : goal.push-requires
push-requires c =
    let entries : length c.loop-evaluation.key ≡ length (take c.loop-evaluation.evaluation-index c.evaluations-evaluation-items.result.now) =
    ap length c.loop-evaluation.invariant ∙ length-map (take c.loop-evaluation.evaluation-index c.evaluations-evaluation-items.result.now) (λ evaluation. value evaluation c.args.partial.now c.args.standings.now) in
    omega (arith, entries, length-take c.loop-evaluation.evaluation-index c.evaluations-evaluation-items.result.now, c.loop-evaluation-test.true, c.evaluations-evaluation-items.ensures.few)
