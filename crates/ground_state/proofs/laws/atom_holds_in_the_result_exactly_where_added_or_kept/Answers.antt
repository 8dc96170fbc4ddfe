use Rattle.ground_state.proofs.Sets.{holds_in_result}
use Rattle.ground_state.proofs.laws.atom_holds_in_the_result_exactly_where_added_or_kept.Goals as goal

pub returns : goal.returns
returns c = holds_in_result
