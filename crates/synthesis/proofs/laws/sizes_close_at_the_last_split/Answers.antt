use Rattle.std.proofs.Common.{[], ◌∷◌}
use Rattle.synthesis.proofs.Closing.{closes_at_newest}
use Rattle.synthesis.proofs.laws.sizes_close_at_the_last_split.Goals as goal

pub returns-clause-solved : goal.returns-clause-solved
returns-clause-solved g c = λ setting budget from stamp root nodes leads. (closes_at_newest setting budget from (root ∷ []) stamp nodes leads).0

pub returns-clause-limited : goal.returns-clause-limited
returns-clause-limited g c = λ setting budget from stamp root nodes leads. (closes_at_newest setting budget from (root ∷ []) stamp nodes leads).1
