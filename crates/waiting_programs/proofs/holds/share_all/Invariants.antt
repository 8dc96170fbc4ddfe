-- The slots so far are held once more.
use Rattle.std.proofs.Common.{◌≡◌, [], take}
use Rattle.waiting_programs.specs.Inner.Holds.{Exchanges}
use Rattle.waiting_programs.proofs.holds.share_all.Given as goal

abbrev pub invariant-loop-slot : goal.invariant-loop-slot
invariant-loop-slot g l = record {
  shared : Exchanges l.fn.pool l.pool [] (take l.slot-index l.slots);
  spare : l.pool.spare ≡ l.fn.pool.spare;
}
