use Rattle.pointer_symmetry.proofs.Sets.{lowest_outside}
use Rattle.pointer_symmetry.proofs.pointer_sets.least_outside.Goals as goal

pub returns-clause-outside : goal.returns-clause-outside
returns-clause-outside c = rw c.trailing_ones.ensures ((lowest_outside c.args.set c.requires.0 c.requires.1 c.ranges.set.fits c.requires.2).0)

pub returns-clause-least : goal.returns-clause-least
returns-clause-least c = rw c.trailing_ones.ensures ((lowest_outside c.args.set c.requires.0 c.requires.1 c.ranges.set.fits c.requires.2).1)
