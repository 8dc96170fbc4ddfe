use Rattle.std.proofs.Common.{arith}
use Rattle.evaluations.proofs.Named.{few_different}
use Rattle.evaluations.proofs.laws.refusals_come_early.Goals as goal

pub returns-clause-name : goal.returns-clause-name
returns-clause-name c text place is = omega (arith, is.1.before.count, few_different is.1.earlier is.1.before.different)

pub returns-clause-repeated : goal.returns-clause-repeated
returns-clause-repeated c text place is = omega (arith, is.1.before.count, few_different is.1.earlier is.1.before.different)
