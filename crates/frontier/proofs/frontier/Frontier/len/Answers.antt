use Rattle.std.proofs.Common.{sym, ◌∙◌}
use Rattle.frontier.proofs.Holding.{length-pairs_of}
use Rattle.frontier.proofs.frontier.Frontier.len.Goals as goal

pub returns : goal.returns
returns g c = rw (← c.self.view_is) (c.len.ensures ∙ sym (length-pairs_of c.self.inside.nodes.slots))
