use Rattle.refutation_tree.proofs.Holding.{accepted_least, accepted_none, accepted_spent}
use Rattle.refutation_tree.proofs.laws.accepted_answers_hold.Goals as goal

pub returns-clause-program : goal.returns-clause-program
returns-clause-program g c = λ m skips lines size answer fair accepted is. accepted_least m skips fair lines size answer accepted is

pub returns-clause-nothing : goal.returns-clause-nothing
returns-clause-nothing g c = λ m skips lines answer fair accepted is. accepted_none m skips fair lines answer accepted is

pub returns-clause-spent : goal.returns-clause-spent
returns-clause-spent g c = λ m skips lines size answer fair accepted spent. accepted_spent m skips fair lines size answer accepted spent
