use Rattle.loop_witness.proofs.Watching.{watches_first, told}
use Rattle.loop_witness.proofs.laws.turns_notice.Goals as goal

pub returns-clause-begin : goal.returns-clause-begin
returns-clause-begin c start run = watches_first run

pub returns-clause-turn : goal.returns-clause-turn
returns-clause-turn c start run same old new turn watches counted = told run old new watches counted same turn
