use Rattle.instance_report.proofs.Telling.{IsTold}
use Rattle.instance_report.proofs.reporting.report.Given as goal

abbrev pub invariant-loop-t : goal.invariant-loop-t
invariant-loop-t g l = IsTold (g.M.Machine.semantics l.machine) l.program l.run (g.M.Machine.acts l.fn.meter) l.t l.text l.solved (g.M.Machine.acts l.meter)
