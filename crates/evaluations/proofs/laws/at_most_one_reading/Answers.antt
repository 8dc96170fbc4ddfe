use Rattle.evaluations.proofs.Readings.{one_reading}
use Rattle.evaluations.proofs.laws.at_most_one_reading.Goals as goal

pub returns : goal.returns
returns c = one_reading
