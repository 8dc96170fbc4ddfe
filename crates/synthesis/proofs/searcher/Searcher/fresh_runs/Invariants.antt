use Rattle.std.proofs.Common.{◌≡◌, All, length}
use Rattle.std.specs.List.{range_with_len}
use Rattle.program_model.specs.Program.{Program}
use Rattle.interpreter.specs.Runs.{IsRunOf}
use Rattle.run_turns.specs.Settling.{instances_of}
use Rattle.synthesis.proofs.searcher.Searcher.fresh_runs.Given as goal

abbrev pub invariant-loop-t : goal.invariant-loop-t
invariant-loop-t g l = record {
  instances : instances_of l.runs.items ≡ range_with_len 0 l.t;
  count : length l.runs.items ≡ l.t;
  fresh : All (λ run. run.marks.steps ≡ 0) l.runs.items;
  runs : (program : Program) → All (IsRunOf (g.M.Machine.semantics l.self.machine.now) (g.M.Machine.belongs l.self.machine.now) program) l.runs.items;
}
