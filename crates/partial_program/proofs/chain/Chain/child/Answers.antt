-- The parent counts one child more, and then the child is put into the slab.
use Rattle.std.proofs.Common.{refl, ap, arith}
use Rattle.partial_program.specs.Chain.{Nodes}
use Rattle.partial_program.specs.Inner.Nodes.{is_child_of}
use Rattle.partial_program.proofs.Slots.{count-there}
use Rattle.partial_program.proofs.Views.{seen_as}
use Rattle.partial_program.proofs.Makings.{chain_of_child, becomes_child}
use Rattle.partial_program.proofs.chain.Chain.child.Goals as goal

pub overflow_add-index_mut : goal.overflow_add-index_mut
overflow_add-index_mut c =
    let place = c.parent.inside.place in
    let spare = rw (← c.self.view_is) at c.requires.spare in
    omega (arith, spare, c.capacity.ensures.value, c.self.invariant.tied.counted place c.index_mut.result.now c.index_mut.ensures.value, count-there (is_child_of place) refl c.self.inside.nodes.slots)

pub invariant_of-self : goal.invariant_of-self
invariant_of-self c =
    let i = c.insert_reserved-place in
    let here = rw (seen_as c.self.inside.lines c.self.inside.nodes.slots c.args.self.now.nodes c.parent.inside.place c.args.parent c.index_mut.result.now (ap (λ (v : Nodes). v.nodes) c.self.view_is) c.parent.view_is c.index_mut.ensures.value) at c.requires.open in
    chain_of_child c.self.inside.lines c.self.inside.root c.self.inside.nodes.slots i.new.self.slots i.result (record { parent = c.parent.inside.place; line = c.args.line; instr = c.args.instr }) c.index_mut.result.now c.self.invariant c.index_mut.ensures.value i.ensures.was_vacant i.ensures.updates.changed i.ensures.updates.others here

pub returns-clause-nodes : goal.returns-clause-nodes
returns-clause-nodes c =
    let i = c.insert_reserved-place in
    let here = rw (seen_as c.self.inside.lines c.self.inside.nodes.slots c.args.self.now.nodes c.parent.inside.place c.args.parent c.index_mut.result.now (ap (λ (v : Nodes). v.nodes) c.self.view_is) c.parent.view_is c.index_mut.ensures.value) at c.requires.open in
    rw (seen_as c.self.inside.lines c.self.inside.nodes.slots c.args.self.now.nodes c.parent.inside.place c.args.parent c.index_mut.result.now (ap (λ (v : Nodes). v.nodes) c.self.view_is) c.parent.view_is c.index_mut.ensures.value, ← c.self.view_is, ← c.parent.view_is) (becomes_child c.self.inside.lines c.self.inside.root c.self.inside.nodes.slots i.new.self.slots i.result (record { parent = c.parent.inside.place; line = c.args.line; instr = c.args.instr }) c.index_mut.result.now c.self.invariant c.index_mut.ensures.value i.ensures.was_vacant i.ensures.updates.changed i.ensures.updates.others here)
