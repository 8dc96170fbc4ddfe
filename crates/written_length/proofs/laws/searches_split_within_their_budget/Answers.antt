use Rattle.written_length.proofs.Budgets.{splits_within}
use Rattle.written_length.proofs.laws.searches_split_within_their_budget.Goals as goal

pub returns : goal.returns
returns g c = λ setting budget lines answer is. splits_within setting budget lines answer is
