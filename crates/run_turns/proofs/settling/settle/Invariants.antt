use Rattle.std.proofs.Common.{◌+◌, ◌≤◌, length, take}
use Rattle.run_turns.specs.Inner.Rounds.{steps_left, HaveGoneOn, IsRefusal}
use Rattle.run_turns.proofs.settling.settle.Given as goal

abbrev pub invariant-loop-place : goal.invariant-loop-place
invariant-loop-place g l =
    let m = g.M.Machine.semantics l.machine in
    record {
      gone : HaveGoneOn m (g.M.Machine.belongs l.machine) l.partial l.limit l.fn.runs l.runs (g.M.Machine.acts l.fn.meter) (g.M.Machine.acts l.meter) (g.M.Machine.copies l.fn.meter) (g.M.Machine.copies l.meter);
      within : l.count ≤ length l.runs;
      refusal : IsRefusal m l.partial l.limit l.fn.runs l.count l.refusal;
    }

abbrev pub decreases-loop-place : goal.decreases-loop-place
decreases-loop-place g l = l.count + steps_left l.limit (take l.count l.runs)
