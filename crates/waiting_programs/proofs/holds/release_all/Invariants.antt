-- The slots so far are held once less.
use Rattle.std.proofs.Common.{◌≤◌, [], take}
use Rattle.waiting_programs.specs.Inner.Holds.{Exchanges}
use Rattle.waiting_programs.proofs.holds.release_all.Given as goal

abbrev pub invariant-loop-slot : goal.invariant-loop-slot
invariant-loop-slot g l = record {
  released : Exchanges l.fn.pool l.pool (take l.slot-index l.slots) [];
  spare : l.fn.pool.spare ≤ l.pool.spare;
}
