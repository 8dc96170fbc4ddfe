use Rattle.run_turns.specs.Inner.Rounds.{HaveGoneOn, IsSoFar}
use Rattle.run_turns.proofs.round.go_round.Given as goal

abbrev pub invariant-loop-place : goal.invariant-loop-place
invariant-loop-place g l =
    let m = g.M.Machine.semantics l.machine in
    record {
      gone : HaveGoneOn m (g.M.Machine.belongs l.machine) l.partial l.limit l.fn.runs l.runs (g.M.Machine.acts l.fn.meter) (g.M.Machine.acts l.meter) (g.M.Machine.copies l.fn.meter) (g.M.Machine.copies l.meter);
      so_far : IsSoFar m l.partial l.limit l.fn.runs l.runs l.place l.so_far;
    }
