-- How lists of slots hold the values of a pool.
use Rattle.std.specs.Prelude.{◌≡◌, ℕ, ◌+◌, ◌<◌, ◌≤◌, ◌==◌, List, filter_map, count_by}
use Rattle.state_pool.specs.Pool.{Pool, value_at, count_at}

-- how often a slot is named in a list
abbrev pub times : ℕ → List ℕ → ℕ
times slot slots = count_by (λ other. other == slot) slots

-- no slot is named twice
abbrev pub AreDistinct : List ℕ → Type 0
AreDistinct slots = (slot : ℕ) → times slot slots ≤ 1

module _ {T : Type 0} where
  -- the values at some slots
  abbrev pub values_at : Pool T → List ℕ → List T
  values_at pool slots = filter_map (λ slot. value_at pool slot) slots

  -- each slot is held at least as often as a list names it
  abbrev pub AreHeld : Pool T → List ℕ → Type 0
  AreHeld pool slots = (slot : ℕ) → times slot slots ≤ count_at pool slot

  -- the holds of one list were given up, and those of another taken; what is held besides has its value as before
  pub record Exchanges (old new : Pool T) (given taken : List ℕ) : Type 0 where
    pub counts : (slot : ℕ) → count_at new slot + times slot given ≡ count_at old slot + times slot taken
    pub values : (slot : ℕ) → times slot given < count_at old slot → value_at new slot ≡ value_at old slot
