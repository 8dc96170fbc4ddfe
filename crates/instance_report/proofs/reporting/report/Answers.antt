use Rattle.std.proofs.Common.{◌+◌, ◌∙◌, ap, arith}
use Rattle.std.specs.Int.{from_bool}
use Rattle.std.specs.Prelude.{◌==◌}
use Rattle.instance_report.proofs.Telling.{byte_of, told_more, told_all, all_operations_made}
use Rattle.instance_report.proofs.reporting.report.Goals as goal

pub loop-t-preserved : goal.loop-t-preserved
loop-t-preserved g c =
    let solved = c.from-solved.ensures ∙ ap from_bool c.is_solved.ensures ∙ byte_of _ in
    told_more _ _ _ _ _ _ _ _ c.loop-t.invariant c.in_ok-outcome.outcome c.in_ok-outcome.ensures.instance c.in_ok-outcome.ensures.outcome _ _ _ c.in_ok-add_run.ensures (ap (λ n. c.loop-t.solved + n) solved) (rw c.in_ok-outcome.ensures.instance c.in_ok-outcome.ensures.acts)

pub returns-clause-reports : goal.returns-clause-reports
returns-clause-reports g c =
    let instances = c.instances-instances.ensures.value in
    told_all _ _ _ _ _ _ _ _ c.loop-t.invariant (omega (arith, instances)) _ (rw instances at c.in_ok-add_count.ensures) (ap (λ n. c.loop-t.solved == n) instances)

pub returns-clause-acts : goal.returns-clause-acts
returns-clause-acts g c = λ runs are_runs.
    all_operations_made _ _ _ _ _ _ _ _ _ c.requires.program.is_partial c.loop-t.invariant (omega (arith, c.instances-instances.ensures.value)) runs are_runs
