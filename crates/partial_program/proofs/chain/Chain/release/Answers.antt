-- The hold is given up, and then the nodes that are idle are freed.
use Rattle.partial_program.proofs.Releases.{tied_given_up, settled_given_up, chain_left, pruned_given_up}
use Rattle.partial_program.proofs.chain.Chain.release.Goals as goal

pub free_idle-requires-clause-tied : goal.free_idle-requires-clause-tied
free_idle-requires-clause-tied c =
    tied_given_up c.self.inside.lines c.self.inside.root c.self.inside.nodes.slots c.id.inside.place c.index_mut.result.now c.self.invariant c.index_mut.ensures.value

pub free_idle-requires-clause-settled : goal.free_idle-requires-clause-settled
free_idle-requires-clause-settled c =
    settled_given_up c.self.inside.lines c.self.inside.root c.self.inside.nodes.slots c.id.inside.place c.index_mut.result.now c.self.invariant c.index_mut.ensures.value

pub invariant_of-self : goal.invariant_of-self
invariant_of-self c =
    chain_left c.self.inside.lines c.self.inside.root c.self.inside.nodes.slots c.id.inside.place c.index_mut.result.now c.self.invariant c.index_mut.ensures.value c.free_idle.new.nodes.slots c.free_idle.ensures.tied c.free_idle.ensures.settled c.free_idle.ensures.left

pub returns-clause-nodes : goal.returns-clause-nodes
returns-clause-nodes c =
    rw (← c.self.view_is, ← c.id.view_is) (pruned_given_up c.self.inside.lines c.self.inside.root c.self.inside.nodes.slots c.id.inside.place c.index_mut.result.now c.self.invariant c.index_mut.ensures.value c.free_idle.new.nodes.slots c.free_idle.ensures.tied c.free_idle.ensures.settled c.free_idle.ensures.left)
