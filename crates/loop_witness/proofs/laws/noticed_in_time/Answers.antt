use Rattle.loop_witness.proofs.Repeating.{noticeable_in_time, noticed_in_time, none_in_a_third}
use Rattle.loop_witness.proofs.Watching.{watched_in_time}
use Rattle.loop_witness.proofs.laws.noticed_in_time.Goals as goal

pub returns-clause-noticeable : goal.returns-clause-noticeable
returns-clause-noticeable c start step run i j is_run = noticeable_in_time step run is_run i j

pub returns-clause-noticed : goal.returns-clause-noticed
returns-clause-noticed c start step run i j from to is_run = noticed_in_time step run is_run i j from to

pub returns-clause-unnoticed : goal.returns-clause-unnoticed
returns-clause-unnoticed c start step run latest i j is_run = none_in_a_third step run is_run latest i j

pub returns-clause-watched : goal.returns-clause-watched
returns-clause-watched c start step run i j marks = watched_in_time run step i j marks
