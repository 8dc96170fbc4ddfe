use Rattle.std.proofs.Common.{ℕ, ◌<◌, ◌≤◌}
use Rattle.evaluations.specs.declared.entries.Key.{Key}
use Rattle.search_tests.proofs.Taken.{All-taken}
use Rattle.search_tests.proofs.frontiers.Queue.take.Goals as goal

pub invariant_of-self : goal.invariant_of-self
invariant_of-self c =
    let is_within = λ (pair : Key × ℕ). (c.args.self.now.low ≤ pair.1) × (pair.1 < c.args.self.now.high) in
    record { within = All-taken is_within c.pop_least.result _ _ c.pop_least.ensures.unchanged c.pop_least.ensures.pairs c.args.self.now.within }
