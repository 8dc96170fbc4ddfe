use Rattle.ground_state.proofs.Sets.{after_where_applicable, after_elsewhere}
use Rattle.ground_state.proofs.laws.acting_gives_the_result_exactly_where_applicable.Goals as goal

pub returns-clause-applicable : goal.returns-clause-applicable
returns-clause-applicable c = after_where_applicable

pub returns-clause-elsewhere : goal.returns-clause-elsewhere
returns-clause-elsewhere c = after_elsewhere
