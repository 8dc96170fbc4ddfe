use Rattle.std.proofs.Common.{◌≡◌, ◌*◌, All}
use Rattle.std.specs.Prelude.{IfSome}
use Rattle.program_model.specs.Program.{Program}
use Rattle.interpreter.specs.Counts.{RaisedAtMost}
use Rattle.interpreter.specs.Runs.{IsRunOf}
use Rattle.run_turns.specs.Settling.{instances_of}
use Rattle.waiting_programs.specs.Programs.{kept_at}
use Rattle.synthesis.specs.Inner.Keeping.{runs_waiting_at}
use Rattle.synthesis.proofs.Drafts.{AreOnesBelow}
use Rattle.synthesis.proofs.searcher.Searcher.refill.Given as goal

abbrev pub invariant-loop-run : goal.invariant-loop-run
invariant-loop-run g l = record {
  ones : AreOnesBelow (kept_at l.programs.kept l.id) l.run-index l.runs;
  instances : IfSome (kept_at l.programs.kept l.id) (λ waiting. instances_of l.runs ≡ instances_of (runs_waiting_at l.line waiting.runs));
  runs : All (λ run. (program : Program) × IsRunOf (g.M.Machine.semantics l.self.machine.now) (g.M.Machine.belongs l.self.machine.now) program run) l.runs;
  acts : g.M.Machine.acts l.meter ≡ g.M.Machine.acts l.fn.meter;
  copies : RaisedAtMost (2 * l.run-index) (g.M.Machine.copies l.fn.meter) (g.M.Machine.copies l.meter);
}
