use Rattle.frontier.proofs.Holding.{is_empty-pairs_of}
use Rattle.frontier.proofs.frontier.Frontier.is_empty.Goals as goal

pub returns : goal.returns
returns g c = rw (← c.self.view_is, c.is_empty.ensures) (is_empty-pairs_of c.self.inside.nodes.slots)
