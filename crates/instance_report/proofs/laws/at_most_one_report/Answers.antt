use Rattle.instance_report.proofs.OneReport.{same_report}
use Rattle.instance_report.proofs.laws.at_most_one_report.Goals as goal

pub returns : goal.returns
returns g c = λ m program limit report other whole h k. same_report m m.ops program limit whole.is_partial report other h k
