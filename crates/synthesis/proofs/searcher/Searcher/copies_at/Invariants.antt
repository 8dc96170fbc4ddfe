use Rattle.std.proofs.Common.{◌≡◌, ◌*◌, length, take}
use Rattle.std.specs.Prelude.{IfSome}
use Rattle.interpreter.specs.Counts.{RaisedAtMost}
use Rattle.waiting_programs.specs.Programs.{kept_at}
use Rattle.synthesis.specs.Inner.Keeping.{runs_waiting_at}
use Rattle.synthesis.proofs.searcher.Searcher.copies_at.Given as goal

abbrev pub invariant-loop-t : goal.invariant-loop-t
invariant-loop-t g l = record {
  same : IfSome (kept_at l.programs.kept l.id) (λ waiting. l.copies.items ≡ runs_waiting_at l.line (take l.t waiting.runs));
  acts : g.M.Machine.acts l.meter ≡ g.M.Machine.acts l.fn.meter;
  copies : RaisedAtMost (2 * length l.copies.items) (g.M.Machine.copies l.fn.meter) (g.M.Machine.copies l.meter);
}
