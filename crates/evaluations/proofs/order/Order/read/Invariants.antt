use Rattle.std.proofs.Common.{◌≡◌, ◌≢◌, ℕ, List, map, Bor}
use Rattle.std.specs.Prelude.{AllPairs}
use Rattle.evaluations.specs.Orders.{name_of}
use Rattle.evaluations.proofs.order.Order.read.Given as goal

abbrev pub invariant-loop-name : goal.invariant-loop-name
invariant-loop-name l = record {
  named : map (λ (name : Bor (List ℕ)). name.now) l.yielded ≡ map name_of l.evaluations.items;
  different : AllPairs (λ a b. a ≢ b) l.evaluations.items;
}
