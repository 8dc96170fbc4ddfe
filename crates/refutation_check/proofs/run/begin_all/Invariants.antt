use Rattle.std.proofs.Common.{◌≡◌, ℕ, ◌<◌, length, get_or}
use Rattle.program_model.specs.Program.{Program}
use Rattle.refutation_check.specs.declared.run.Run.{Run}
use Rattle.refutation_check.specs.Inner.Runs.{AreRuns, StandsAt}
use Rattle.refutation_check.proofs.run.begin_all.Given as goal

abbrev pub invariant-loop-t : goal.invariant-loop-t
invariant-loop-t g l = record {
  runs : AreRuns (g.M.Machine.belongs l.machine) (g.M.Machine.semantics l.machine).instances l.runs;
  begun : (q : Program) (k : ℕ) (d : Run g.row.M-Cfg.Denot) → 0 < length q → k < l.t → StandsAt (g.M.Machine.semantics l.machine) (g.M.Machine.belongs l.machine) q k (get_or l.runs k d);
  count : length l.runs ≡ length l.initial.runs;
}
