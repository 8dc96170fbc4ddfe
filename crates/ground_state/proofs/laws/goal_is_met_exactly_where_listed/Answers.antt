use Rattle.ground_state.proofs.MetGoals.{listed_where_met, met_where_listed}
use Rattle.ground_state.proofs.laws.goal_is_met_exactly_where_listed.Goals as goal

pub returns : goal.returns
returns c = λ task instance valid. (listed_where_met task instance valid, met_where_listed task instance)
