use Rattle.ground_state.proofs.Sets.{holds_at_start}
use Rattle.ground_state.proofs.laws.atom_holds_at_the_start_exactly_where_listed.Goals as goal

pub returns : goal.returns
returns c = holds_at_start
