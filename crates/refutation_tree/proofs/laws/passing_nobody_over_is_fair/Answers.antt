use Rattle.refutation_tree.proofs.Covering.{nobody_is_fair}
use Rattle.refutation_tree.proofs.laws.passing_nobody_over_is_fair.Goals as goal

pub returns : goal.returns
returns g c = nobody_is_fair
