use Rattle.std.proofs.Common.{◌≤◌}
use Rattle.interpreter.specs.Runs.{IsRunOf}
use Rattle.search_tests.specs.declared.turns.TheConstants.{LIMIT}
use Rattle.search_tests.proofs.turns.in_turns.Given as goal

abbrev pub invariant-loop : goal.invariant-loop
invariant-loop g l = record {
  run : IsRunOf (g.M.Machine.semantics l.machine) (g.M.Machine.belongs l.machine) l.program l.run;
  in_limit : l.run.marks.steps ≤ LIMIT;
}
