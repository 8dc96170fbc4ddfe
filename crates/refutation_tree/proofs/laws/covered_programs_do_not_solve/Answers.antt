use Rattle.refutation_tree.proofs.Covering.{covered_refuted}
use Rattle.refutation_tree.proofs.laws.covered_programs_do_not_solve.Goals as goal

pub returns : goal.returns
returns g c = λ m skips part program marks fair partial covered completes solves. covered_refuted m skips fair part marks program partial covered completes solves
