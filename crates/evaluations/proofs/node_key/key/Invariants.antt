use Rattle.std.proofs.Common.{◌≡◌, map, take}
use Rattle.evaluations.specs.Evaluations.{value}
use Rattle.evaluations.proofs.node_key.key.Given as goal

abbrev pub invariant-loop-evaluation : goal.invariant-loop-evaluation
invariant-loop-evaluation l = l.key ≡ map (λ evaluation. value evaluation l.partial l.standings) (take l.evaluation-index l.evaluation-items)
