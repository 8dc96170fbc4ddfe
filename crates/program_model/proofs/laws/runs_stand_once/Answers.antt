-- A run has one standing.
use Rattle.program_model.proofs.Standings.{same_standing, same_noticed}
use Rattle.program_model.proofs.laws.runs_stand_once.Goals as goal

pub returns-clause-standing : goal.returns-clause-standing
returns-clause-standing g c = λ m ops part t limit s r x y partial h k. same_standing m ops part t partial limit s r x y h k

pub returns-clause-noticed : goal.returns-clause-noticed
returns-clause-noticed g c = λ m ops part t i j a b partial h k. same_noticed m ops part t partial i j a b h k
