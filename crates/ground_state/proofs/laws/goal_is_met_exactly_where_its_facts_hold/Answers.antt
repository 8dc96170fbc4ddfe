use Rattle.ground_state.proofs.MetGoals.{goal_met_where_held}
use Rattle.ground_state.proofs.laws.goal_is_met_exactly_where_its_facts_hold.Goals as goal

pub returns : goal.returns
returns c = goal_met_where_held
