use Rattle.family_gen.proofs.Numbers.{few_atoms}
use Rattle.family_gen.proofs.laws.families_have_few_atoms.Goals as goal

pub returns : goal.returns
returns c = few_atoms
