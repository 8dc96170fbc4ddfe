use Rattle.partial_program.proofs.Views.{seen_tree}
use Rattle.partial_program.proofs.chain.Chain.root.Goals as goal

pub returns-clause-tree : goal.returns-clause-tree
returns-clause-tree c = rw (← c.self.view_is) (seen_tree c.self.inside.lines c.self.inside.root _ c.self.inside.nodes.slots c.self.invariant)
