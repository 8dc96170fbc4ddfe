use Rattle.loop_witness.proofs.Repeating.{noticed_at_six}
use Rattle.loop_witness.proofs.laws.noticed_after_the_first.Goals as goal

pub returns : goal.returns
returns c start step run is_run = noticed_at_six step run is_run
