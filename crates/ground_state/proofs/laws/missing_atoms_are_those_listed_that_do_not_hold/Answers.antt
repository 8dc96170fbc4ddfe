use Rattle.ground_state.proofs.Sets.{missing_are}
use Rattle.ground_state.proofs.laws.missing_atoms_are_those_listed_that_do_not_hold.Goals as goal

pub returns : goal.returns
returns c = missing_are
