use Rattle.synthesis.proofs.SpentRuns.{spent_run_shown}
use Rattle.synthesis.proofs.laws.a_spent_run_is_shown.Goals as goal

pub returns : goal.returns
returns g c = λ setting budget lines size t answer is spent. spent_run_shown setting budget lines size t answer is spent
