use Rattle.synthesis.proofs.EnoughLimits.{answer_unspent, answer_unlimited, answer_decided}
use Rattle.synthesis.proofs.laws.enough_decides.Goals as goal

pub returns-clause-budget : goal.returns-clause-budget
returns-clause-budget g c = λ setting budget lines answer size splits is spent. answer_unspent setting budget lines splits answer size is spent

pub returns-clause-limit : goal.returns-clause-limit
returns-clause-limit g c = λ setting budget lines answer size t steps is spent. answer_unlimited setting budget lines steps answer size t is spent

pub returns-clause-both : goal.returns-clause-both
returns-clause-both g c = λ setting budget lines answer splits steps is. answer_decided setting budget lines answer splits steps is
