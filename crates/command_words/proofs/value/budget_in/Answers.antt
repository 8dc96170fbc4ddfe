use Rattle.std.proofs.Common.{arith}
use Rattle.command_words.proofs.value.budget_in.Goals as goal

pub returns-in_err-budget-clause-none : goal.returns-in_err-budget-clause-none
returns-in_err-budget-clause-none c =
    rw c.from_residual.ensures (λ budget least most is. c.in_err-budget.ensures.none budget (omega (arith, least)) (omega (arith, most)) (rw c.from.ensures is))
