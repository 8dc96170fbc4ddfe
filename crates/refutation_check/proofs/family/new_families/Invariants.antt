use Rattle.std.proofs.Common.{◌≡◌, length}
use Rattle.std.specs.Prelude.{All}
use Rattle.refutation_check.specs.declared.family.Family.{Family}
use Rattle.refutation_check.specs.Inner.Runs.{AreRuns}
use Rattle.refutation_check.proofs.family.new_families.Given as goal

abbrev pub invariant-loop : goal.invariant-loop
invariant-loop g l = record { count : length l.families.items ≡ l.counter; runs : All (λ (family : Family g.row.M-Cfg.Denot). AreRuns (g.M.Machine.belongs l.machine) (g.M.Machine.semantics l.machine).instances family.runs.items) l.families.items }
