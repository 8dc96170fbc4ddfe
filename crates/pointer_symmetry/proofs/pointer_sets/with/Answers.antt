use Rattle.pointer_symmetry.proofs.Sets.{one_more}
use Rattle.pointer_symmetry.proofs.pointer_sets.with.Goals as goal

pub returns : goal.returns
returns c = λ other. one_more c.args.set c.args.pointer other c.requires
