use Rattle.answer_reader.proofs.Said.{reads_one}
use Rattle.answer_reader.proofs.laws.one_answer.Goals as goal

pub returns : goal.returns
returns c = reads_one
