use Rattle.std.proofs.Common.{◌≡◌, ◌<◌, ℕ}
use Rattle.ground_state.specs.Task.{ancestor}
use Rattle.ground_state.proofs.types.reaches.Given as goal

abbrev pub invariant-loop : goal.invariant-loop
invariant-loop l = (l.at ≡ ancestor l.types l.index l.number)
    × ((steps : ℕ) → steps < l.index → ancestor l.types steps l.number ≡ l.above → ⊥)
