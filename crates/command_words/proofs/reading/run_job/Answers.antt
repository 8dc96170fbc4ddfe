use Rattle.std.specs.Prelude.{IsTrue}
use Rattle.command_words.specs.Words.{is_file_name}
use Rattle.command_words.proofs.InputNames.{inputs_fit}
use Rattle.command_words.proofs.reading.run_job.Goals as goal

pub returns-in_err-run_in-clause-none : goal.returns-in_err-run_in-clause-none
returns-in_err-run_in-clause-none c =
    rw c.from_residual-in_err-run_in.ensures (λ job is. c.in_err-run_in.ensures.none job.run is.is_job.least_run is.is_job.most_run is.run)

pub returns-clause-some : goal.returns-clause-some
returns-clause-some c =
    let pointers = c.in_ok-count_in.ensures.some in
    let limits = c.in_ok-run_in.ensures.limits in
    let named : IsTrue (is_file_name c.in_ok-matched.field-0) = rw c.in_ok-matched.was at c.requires.program in
    record {
      pointers = pointers.2;
      program = c.in_ok-matched.was;
      run = c.in_ok-run_in.ensures.some;
      names = c.inputs_of.ensures;
      is_job = record {
        some_pointers = pointers.0;
        few_pointers = pointers.1;
        least_run = limits.0;
        most_run = limits.1;
        program = named;
        inputs = inputs_fit c.inputs_of.result c.args.matched c.inputs_of.ensures c.requires;
      };
    }
