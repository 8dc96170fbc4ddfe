-- How often the entries of a pool are held.
use Rattle.std.specs.Prelude.{◌≡◌, ℕ, ◌<◌, List, Option, Some, None, slice_index_or}
use Rattle.state_pool.specs.declared.held.Held.{Held}

module _ {T : Type 0} where
  -- each value is held at least once
  abbrev pub AreCounted : List (Option (Held T)) → Type 0
  AreCounted slots = (slot : ℕ) (held : Held T) → slice_index_or slots slot None ≡ Some held → 0 < held.count
