-- The one node of a new chain is its root.
use Rattle.partial_program.proofs.Makings.{chain_of_root, root_alone}
use Rattle.partial_program.proofs.chain.Chain.new.Goals as goal

pub invariant_of-result : goal.invariant_of-result
invariant_of-result c =
    let i = c.insert_reserved-place in
    chain_of_root c.args.lines c.in_ok-nodes.nodes.slots i.new.self.slots i.result c.in_ok-nodes.ensures.empty i.ensures.updates.changed i.ensures.updates.others c.requires.some c.requires.few

pub returns-clause-alone : goal.returns-clause-alone
returns-clause-alone c =
    let i = c.insert_reserved-place in
    root_alone _ c.in_ok-nodes.nodes.slots i.new.self.slots i.result c.in_ok-nodes.ensures.empty i.ensures.updates.changed i.ensures.updates.others
