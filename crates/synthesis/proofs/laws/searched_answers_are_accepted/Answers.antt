use Rattle.synthesis.proofs.Accepting.{searched_accepted}
use Rattle.synthesis.proofs.laws.searched_answers_are_accepted.Goals as goal

pub returns : goal.returns
returns g c = λ setting budget lines answer some pointers instances asked splits steps is. searched_accepted setting budget splits steps lines answer some pointers instances asked is
