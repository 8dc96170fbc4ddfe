use Rattle.std.proofs.Common.{length, take, ◌-◌, ◌≤◌}
use Rattle.bfgp_outside.proofs.Puts.{AllPut}
use Rattle.bfgp_outside.proofs.put.put_all.Given as goal

abbrev pub invariant-loop-done : goal.invariant-loop-done
invariant-loop-done g l = record {
  within : l.done ≤ length l.bytes;
  so_far : AllPut g.K.Sink.written g.K.Sink.faults l.fn.sink l.sink (take l.done l.bytes);
}

abbrev pub decreases-loop-done : goal.decreases-loop-done
decreases-loop-done g l = length l.bytes - l.done
