use Rattle.interpreter.proofs.InTime.{noticed_by_then, limited_repeats}
use Rattle.interpreter.proofs.laws.repetitions_are_noticed_in_time.Goals as goal

pub returns-clause-noticed : goal.returns-clause-noticed
returns-clause-noticed g c = λ m program t i j from to. noticed_by_then m program t i j from to

pub returns-clause-unlimited : goal.returns-clause-unlimited
returns-clause-unlimited g c = λ m program t limit steps i j. limited_repeats m program t limit steps i j
