use Rattle.synthesis.proofs.SameAnswers.{same_answer}
use Rattle.synthesis.proofs.laws.at_most_one_answer.Goals as goal

pub returns : goal.returns
returns g c = λ setting budget lines answer other h k. same_answer setting budget lines answer other h k
