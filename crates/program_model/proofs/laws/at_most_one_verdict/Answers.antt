use Rattle.std.proofs.Common.{◌<◌}
use Rattle.program_model.proofs.Verdicts.{same_verdict}
use Rattle.program_model.proofs.laws.at_most_one_verdict.Goals as goal

pub returns : goal.returns
returns g c = λ m ops part limit verdict other partial h k. same_verdict m ops part limit partial (λ t. t < m.instances) verdict other h k
