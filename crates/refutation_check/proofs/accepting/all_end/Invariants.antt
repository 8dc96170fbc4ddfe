use Rattle.std.proofs.Common.{ℕ, ◌<◌, get_or}
use Rattle.program_model.specs.Run.{Ends}
use Rattle.refutation_check.specs.Walking.{IsWalk}
use Rattle.refutation_check.proofs.accepting.all_end.Given as goal

abbrev pub invariant-loop-t : goal.invariant-loop-t
invariant-loop-t g l = record {
  walk : IsWalk (g.M.Machine.semantics l.machine) (g.M.Machine.belongs l.machine) l.walk;
  ended : (t : ℕ) → t < l.t → Ends (g.M.Machine.semantics l.machine) l.program t (get_or l.steps t 0);
}
