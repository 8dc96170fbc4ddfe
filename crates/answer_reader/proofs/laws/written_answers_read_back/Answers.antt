use Rattle.answer_reader.proofs.Said.{read_as_written}
use Rattle.answer_reader.proofs.laws.written_answers_read_back.Goals as goal

pub returns : goal.returns
returns c = read_as_written
