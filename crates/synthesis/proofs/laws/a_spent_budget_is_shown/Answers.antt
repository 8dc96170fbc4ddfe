use Rattle.synthesis.proofs.SpentBudgets.{spent_budget_shown}
use Rattle.synthesis.proofs.laws.a_spent_budget_is_shown.Goals as goal

pub returns : goal.returns
returns g c = λ setting budget lines size answer is spent. spent_budget_shown setting budget lines size answer is spent
