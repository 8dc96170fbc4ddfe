use Rattle.std.proofs.Common.{◌≡◌, ℕ, ◌<◌, length, get_or}
use Rattle.run_turns.specs.Settling.{instances_of, AreRunsOf}
use Rattle.search_tests.proofs.settling.verdict_from.Given as goal

abbrev pub invariant-loop-t : goal.invariant-loop-t
invariant-loop-t g l = record {
  runs : AreRunsOf (g.M.Machine.semantics l.machine) (g.M.Machine.belongs l.machine) l.partial l.limit l.runs.items;
  size : length l.runs.items ≡ l.t;
  each : (k d : ℕ) → k < l.t → get_or (instances_of l.runs.items) k d ≡ k;
}
