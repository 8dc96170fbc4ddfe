-- What a taker took.
use Rattle.std.specs.Prelude.{ℕ, List, ◌++◌}

-- these bytes came to a taker: whatever bytes it stood for before, it stands for those with these behind them now
abbrev pub Took : {T : Type 0} → (T → List ℕ → Type 0) → (old new : T) → List ℕ → Type 0
Took stands_for old new bytes = (front : List ℕ) → stands_for old front → stands_for new (front ++ bytes)
