-- The values so far are kept, each at a slot of its own, and there is room for the others.
use Rattle.std.proofs.Common.{◌≡◌, ℕ, ◌+◌, ◌≤◌, length}
use Rattle.state_pool.specs.Pool.{count_at}
use Rattle.waiting_programs.specs.Inner.Holds.{times, AreDistinct, values_at}
use Rattle.waiting_programs.proofs.holds.keep_all.Given as goal

abbrev pub invariant-loop-value : goal.invariant-loop-value
invariant-loop-value g l = record {
  counts : (slot : ℕ) → count_at l.pool slot ≡ times slot l.slots.items;
  values : values_at l.pool l.slots.items ≡ l.yielded;
  distinct : AreDistinct l.slots.items;
  spare : length l.fn.values.items ≤ l.pool.spare + length l.yielded;
}
