use Rattle.std.specs.Prelude.{IsTrue}
use Rattle.command_words.specs.Words.{is_file_name}
use Rattle.command_words.proofs.InputNames.{inputs_fit}
use Rattle.command_words.proofs.reading.check_job.Goals as goal

pub returns-clause-some : goal.returns-clause-some
returns-clause-some c =
    let pointers = c.in_ok-count_in.ensures.some in
    let lines = c.in_ok-count_in-2.ensures.some in
    let named : IsTrue (is_file_name c.in_ok-matched.field-0) = rw c.in_ok-matched.was at c.requires.answer in
    record {
      pointers = pointers.2;
      lines = lines.2;
      answer = c.in_ok-matched.was;
      names = c.inputs_of.ensures;
      is_job = record {
        some_pointers = pointers.0;
        few_pointers = pointers.1;
        some_lines = lines.0;
        few_lines = lines.1;
        answer = named;
        inputs = inputs_fit c.inputs_of.result c.args.matched c.inputs_of.ensures c.requires;
      };
    }
