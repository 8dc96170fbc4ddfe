use Rattle.std.proofs.Common.{◌≡◌, ◌+◌, ◌-◌, ◌≤◌}
use Rattle.std.specs.Prelude.{◌↔◌, IsTrue}
use Rattle.flag_rules.specs.Counts.{raised}
use Rattle.program_model.specs.Counts.{operations_made}
use Rattle.interpreter.specs.Counts.{marks_between, RaisedAtMost}
use Rattle.interpreter.specs.Runs.{IsRunOf}
use Rattle.interpreter.specs.Inner.Progress.{IsRepeated}
use Rattle.interpreter.proofs.run.Run.advance.Given as goal

abbrev pub invariant-loop-stand : goal.invariant-loop-stand
invariant-loop-stand g l = record {
  run : IsRunOf (g.M.Machine.semantics l.machine) (g.M.Machine.belongs l.machine) l.partial l.self;
  instance : l.self.instance ≡ l.fn.self.instance;
  in_limit : l.self.marks.steps ≤ l.limit;
  repeated : IsTrue l.repeated ↔ IsRepeated l.self;
  spent : l.self.marks.steps + l.left ≡ l.fn.self.marks.steps + l.quota;
  later : l.fn.self.marks.steps ≤ l.self.marks.steps;
  acts : g.M.Machine.acts l.meter ≡ raised (g.M.Machine.acts l.fn.meter) (operations_made (g.M.Machine.semantics l.machine) l.partial l.self.instance l.self.marks.steps - operations_made (g.M.Machine.semantics l.machine) l.partial l.self.instance l.fn.self.marks.steps);
  copies : RaisedAtMost (marks_between l.fn.self.marks.steps l.self.marks.steps) (g.M.Machine.copies l.fn.meter) (g.M.Machine.copies l.meter);
}

abbrev pub decreases-loop-stand : goal.decreases-loop-stand
decreases-loop-stand g l = l.left
