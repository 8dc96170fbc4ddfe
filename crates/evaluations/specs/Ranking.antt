-- Orders on pairs of a key and a number.
use Rattle.std.specs.Prelude.{◌≡◌, ◌≢◌, ℕ, Bool, true, false, not}

-- a strict order, in which of two pairs with different numbers exactly one comes before the other
pub record IsRanking {K : Type 0} (before : K → ℕ → K → ℕ → Bool) : Type 0 where
  pub irreflexive : (a : K) (m : ℕ) → before a m a m ≡ false
  pub total : (a b : K) (m n : ℕ) → m ≢ n → before a m b n ≡ not (before b n a m)
  pub transitive : (a b c : K) (m n k : ℕ) → before a m b n ≡ true → before b n c k ≡ true → before a m c k ≡ true
