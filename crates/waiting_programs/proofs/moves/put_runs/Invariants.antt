-- The runs so far stand in place of those on their instances, and there is room for the others.
use Rattle.std.proofs.Common.{◌≡◌, ◌+◌, ◌≤◌, length}
use Rattle.waiting_programs.specs.Programs.{with_runs}
use Rattle.waiting_programs.specs.Inner.Holds.{AreDistinct, values_at, Exchanges}
use Rattle.waiting_programs.proofs.moves.put_runs.Given as goal

abbrev pub invariant-loop-run : goal.invariant-loop-run
invariant-loop-run g l = record {
  exchanged : Exchanges l.fn.pool l.pool l.fn.slots l.slots;
  runs : values_at l.pool l.slots ≡ with_runs (values_at l.fn.pool l.fn.slots) l.yielded;
  distinct : AreDistinct l.slots;
  spare : l.fn.pool.spare ≤ l.pool.spare + length l.yielded;
}
