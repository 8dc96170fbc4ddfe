-- A node that was put into the slab is a heap of its own, which is merged with the heap that there was.
use Rattle.std.proofs.Common.{◌<◌, ◌^◌, arith}
use Rattle.slab.specs.Slab.{slab_len}
use Rattle.frontier.proofs.Holding.{apart_pushed, heap_pushed, pairs_pushed, few_pushed, same_count}
use Rattle.frontier.proofs.frontier.Frontier.push.Goals as goal

pub merge-self-inside-requires : goal.merge-self-inside-requires
merge-self-inside-requires g c =
    let nodes = c.self.inside.nodes in
    let i = c.insert_reserved-place in
    let spare = rw (← c.self.view_is) at c.requires.spare in
    let fresh = rw (← c.self.view_is) at c.requires.differs in
    let small : slab_len i.new.self < 2 ^ 64 = omega (arith, spare, c.capacity.ensures.value, i.ensures.len) in
    record { first = c.self.invariant.tree; second = _; apart = apart_pushed _ nodes i.new.self c.self.inside.root i.result (c.args.key, c.args.number) c.self.invariant i.ensures.was_vacant i.ensures.updates i.ensures.len small fresh }

pub invariant_of-self : goal.invariant_of-self
invariant_of-self g c =
    let nodes = c.self.inside.nodes in
    let i = c.insert_reserved-place in
    let spare = rw (← c.self.view_is) at c.requires.spare in
    let fresh = rw (← c.self.view_is) at c.requires.differs in
    let small : slab_len i.new.self < 2 ^ 64 = omega (arith, spare, c.capacity.ensures.value, i.ensures.len) in
    let m = c.merge-self-inside in
    let apart = apart_pushed _ nodes i.new.self c.self.inside.root i.result (c.args.key, c.args.number) c.self.invariant i.ensures.was_vacant i.ensures.updates i.ensures.len small fresh in
    heap_pushed _ nodes i.new.self c.self.inside.root i.result (c.args.key, c.args.number) c.self.invariant i.ensures.was_vacant i.ensures.updates i.ensures.len m.new.nodes m.result _ _ apart (m.ensures.merged _ _ apart) m.ensures.pairs

pub returns-clause-pairs : goal.returns-clause-pairs
returns-clause-pairs g c =
    let nodes = c.self.inside.nodes in
    let i = c.insert_reserved-place in
    let m = c.merge-self-inside in
    rw (← c.self.view_is) (pairs_pushed _ nodes i.new.self c.self.inside.root i.result (c.args.key, c.args.number) c.self.invariant i.ensures.was_vacant i.ensures.updates i.ensures.len m.new.nodes m.ensures.pairs)

pub returns-clause-spare : goal.returns-clause-spare
returns-clause-spare g c =
    let i = c.insert_reserved-place in
    let m = c.merge-self-inside in
    let spare = rw (← c.self.view_is) at c.requires.spare in
    rw (← c.self.view_is) (omega (arith, spare, i.ensures.len, i.ensures.capacity, m.ensures.capacity, same_count i.new.self.slots m.new.nodes.slots m.ensures.pairs))

pub returns-clause-compared : goal.returns-clause-compared
returns-clause-compared g c =
    let nodes = c.self.inside.nodes in
    let i = c.insert_reserved-place in
    let spare = rw (← c.self.view_is) at c.requires.spare in
    let fresh = rw (← c.self.view_is) at c.requires.differs in
    let small : slab_len i.new.self < 2 ^ 64 = omega (arith, spare, c.capacity.ensures.value, i.ensures.len) in
    let m = c.merge-self-inside in
    let apart = apart_pushed _ nodes i.new.self c.self.inside.root i.result (c.args.key, c.args.number) c.self.invariant i.ensures.was_vacant i.ensures.updates i.ensures.len small fresh in
    rw (← c.self.view_is) (few_pushed _ nodes i.new.self c.self.inside.root i.result (c.args.key, c.args.number) c.self.invariant i.ensures.was_vacant i.ensures.updates i.ensures.len m.new.nodes.slots m.result _ _ (m.ensures.merged _ _ apart))
