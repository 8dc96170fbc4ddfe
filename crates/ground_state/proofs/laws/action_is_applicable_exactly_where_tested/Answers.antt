use Rattle.std.proofs.Common.{refl}
use Rattle.ground_state.proofs.Acting.{applicable_exactly}
use Rattle.ground_state.proofs.laws.action_is_applicable_exactly_where_tested.Goals as goal

pub returns : goal.returns
returns c = λ task table schema args state fit action. applicable_exactly task table schema args state _ fit action refl
