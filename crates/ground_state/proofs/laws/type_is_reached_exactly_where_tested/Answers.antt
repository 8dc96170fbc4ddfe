use Rattle.ground_state.proofs.Typing.{reaches_exactly}
use Rattle.ground_state.proofs.laws.type_is_reached_exactly_where_tested.Goals as goal

pub returns : goal.returns
returns c = reaches_exactly
