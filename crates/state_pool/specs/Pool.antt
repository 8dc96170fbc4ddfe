-- What contracts see of a pool.
use Rattle.std.specs.Prelude.{◌≡◌, ◌≢◌, ℕ, ◌<◌, nat_lt, List, count_by, slice_index_or, Option, Some, None, option_map}
use Rattle.state_pool.specs.declared.held.Held.{Held}

-- the value and its count at each slot, by the slot's number, and how many more values may be kept before memory is needed
pub record Pool (T : Type 0) : Type 0 where
  pub slots : List (Option (Held T))
  pub spare : ℕ

module _ {T : Type 0} where
  -- how often a value is held, which is 0 where there is none
  abbrev pub count_of : Option (Held T) → ℕ
  count_of None = 0
  count_of (Some held) = held.count

  -- the value and its count at a slot
  abbrev pub held_at : Pool T → ℕ → Option (Held T)
  held_at pool slot = slice_index_or pool.slots slot None

  -- the value of a slot, where it has one
  abbrev pub value_at : Pool T → ℕ → Option T
  value_at pool slot = option_map (λ held. held.value) (held_at pool slot)

  -- how often the value of a slot is held
  abbrev pub count_at : Pool T → ℕ → ℕ
  count_at pool slot = count_of (held_at pool slot)

  -- a slot is live while its value is held
  abbrev pub IsLive : Pool T → ℕ → Type 0
  IsLive pool slot = 0 < count_at pool slot

  -- how many slots are live
  abbrev pub live_count : Pool T → ℕ
  live_count pool = count_by (λ held. nat_lt 0 (count_of held)) pool.slots

  -- at most this slot changed
  abbrev pub ChangesOnly : Pool T → Pool T → ℕ → Type 0
  ChangesOnly old new slot = (other : ℕ) → other ≢ slot → held_at new other ≡ held_at old other
