use Rattle.command_words.proofs.InputNames.{inputs_fit}
use Rattle.command_words.proofs.reading.synth_job.Goals as goal

pub returns-in_err-budget-clause-none : goal.returns-in_err-budget-clause-none
returns-in_err-budget-clause-none c =
    rw c.from_residual-in_err-budget.ensures (λ job is. c.in_err-budget.ensures.none job.bounds.budget is.is_job.some_splits is.is_job.bounds.few_splits is.budget)

pub returns-in_err-run-clause-none : goal.returns-in_err-run-clause-none
returns-in_err-run-clause-none c =
    rw c.from_residual-in_err-run.ensures (λ job is. c.in_err-run.ensures.none job.bounds.run is.is_job.least_run is.is_job.bounds.few_steps is.run)

pub returns-clause-some : goal.returns-clause-some
returns-clause-some c =
    let pointers = c.in_ok-pointers.ensures.some in
    let lines = c.in_ok-lines.ensures.some in
    let budget = c.in_ok-budget.ensures.limits in
    let run = c.in_ok-run.ensures.limits in
    record {
      pointers = pointers.2;
      lines = lines.2;
      budget = c.in_ok-budget.ensures.some;
      run = c.in_ok-run.ensures.some;
      order = c.in_ok-order.ensures.some;
      names = c.inputs_of.ensures;
      is_job = record {
        some_pointers = pointers.0;
        few_pointers = pointers.1;
        bounds = record { some_lines = lines.0; few_lines = lines.1; few_splits = budget.1; few_steps = run.1 };
        some_splits = budget.0;
        least_run = run.0;
        order = c.in_ok-order.ensures.order;
        inputs = inputs_fit c.inputs_of.result c.args.matched c.inputs_of.ensures c.requires;
      };
    }
