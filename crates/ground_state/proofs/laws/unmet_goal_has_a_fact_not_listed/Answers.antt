use Rattle.ground_state.proofs.MetGoals.{not_listed_where_unmet}
use Rattle.ground_state.proofs.laws.unmet_goal_has_a_fact_not_listed.Goals as goal

pub returns : goal.returns
returns c = λ task instance valid. not_listed_where_unmet task instance
