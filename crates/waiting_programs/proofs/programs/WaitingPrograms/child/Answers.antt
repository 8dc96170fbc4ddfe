-- The child's node is new in the chain, and its slots are those of the parent, but for those of the runs that moved.
use Rattle.std.proofs.Common.{refl, ap, arith}
use Rattle.partial_program.specs.Chain.{child_of as node_of}
use Rattle.waiting_programs.specs.declared.kept.Kept.{Kept}
use Rattle.waiting_programs.specs.Programs.{Programs}
use Rattle.waiting_programs.proofs.Sharing.{seen_as, seen_count, unseen, few_holds, held_slots, run_count, held_node, shared_added, becomes_child}
use Rattle.waiting_programs.proofs.programs.WaitingPrograms.child.Goals as goal

pub share_and_move-requires-clause-among : goal.share_and_move-requires-clause-among
share_and_move-requires-clause-among g c =
    let above = c.index-above.result.now in
    let seen = seen_as c.self.inside.chain.nodes c.self.inside.runs c.self.inside.kept.slots c.args.self.now.kept c.parent.inside.place c.args.parent above (ap (λ (p : Programs _). p.kept) c.self.view_is) c.parent.view_is c.index-above.ensures in
    let among = rw seen at c.requires.among in
    rw (c.as_slice.ensures.value, ← run_count c.self.inside.chain.nodes c.self.inside.runs c.self.inside.kept.slots c.self.invariant c.parent.inside.place above c.index-above.ensures) among

pub share_and_move-requires-clause-held : goal.share_and_move-requires-clause-held
share_and_move-requires-clause-held g c =
    rw c.as_slice.ensures.value (held_slots c.self.inside.chain.nodes c.self.inside.runs c.self.inside.kept.slots c.self.invariant c.parent.inside.place c.index-above.result.now c.index-above.ensures)

pub share_and_move-requires-clause-fit : goal.share_and_move-requires-clause-fit
share_and_move-requires-clause-fit g c =
    let few = rw (← c.self.view_is) at c.requires.few in
    let once = c.self.invariant.once c.parent.inside.place c.index-above.result.now c.index-above.ensures in
    rw c.as_slice.ensures.value (λ slot. omega (arith, few, once slot, few_holds c.self.inside.chain.nodes c.self.inside.runs c.self.inside.kept.slots c.self.invariant slot))

pub share_and_move-requires-clause-distinct : goal.share_and_move-requires-clause-distinct
share_and_move-requires-clause-distinct g c =
    rw c.as_slice.ensures.value (c.self.invariant.once c.parent.inside.place c.index-above.result.now c.index-above.ensures)

pub child-node-requires-clause-open : goal.child-node-requires-clause-open
child-node-requires-clause-open g c =
    let above = c.index-above.result.now in
    let seen = seen_as c.self.inside.chain.nodes c.self.inside.runs c.self.inside.kept.slots c.args.self.now.kept c.parent.inside.place c.args.parent above (ap (λ (p : Programs _). p.kept) c.self.view_is) c.parent.view_is c.index-above.ensures in
    let n = held_node c.self.inside.chain.nodes c.self.inside.runs c.self.inside.kept.slots c.self.invariant c.parent.inside.place above c.index-above.ensures in
    let open_above = rw (seen, n.1) at c.requires.open in
    rw n.1 open_above

pub invariant_of-self-2 : goal.invariant_of-self-2
invariant_of-self-2 g c =
    let above = c.index-above.result.now in
    let n = held_node c.self.inside.chain.nodes c.self.inside.runs c.self.inside.kept.slots c.self.invariant c.parent.inside.place above c.index-above.ensures in
    let one : Kept = record { node = c.child-node.result; slots = c.in_ok-slots.slots } in
    let made = rw n.1 at c.child-node.ensures.nodes in
    let own = c.in_ok-slots.ensures in
    let i = c.insert_reserved-place in
    shared_added c.self.inside.chain.nodes c.child-node.new.self.nodes c.self.inside.runs c.share_and_move.new.pool c.self.inside.kept.slots i.new.self.slots i.result one (node_of above.node n.0 c.args.line c.args.instr) c.self.invariant c.child-node.ensures.fresh made refl own.taken own.distinct i.ensures.was_vacant i.ensures.updates.changed i.ensures.updates.others

pub returns-clause-fresh : goal.returns-clause-fresh
returns-clause-fresh g c =
    rw (← c.self.view_is) (unseen c.self.inside.chain.nodes c.self.inside.runs c.self.inside.kept.slots c.insert_reserved-place.result c.insert_reserved-place.ensures.was_vacant)

pub returns-clause-kept : goal.returns-clause-kept
returns-clause-kept g c =
    let above = c.index-above.result.now in
    let seen = seen_as c.self.inside.chain.nodes c.self.inside.runs c.self.inside.kept.slots c.args.self.now.kept c.parent.inside.place c.args.parent above (ap (λ (p : Programs _). p.kept) c.self.view_is) c.parent.view_is c.index-above.ensures in
    let n = held_node c.self.inside.chain.nodes c.self.inside.runs c.self.inside.kept.slots c.self.invariant c.parent.inside.place above c.index-above.ensures in
    let one : Kept = record { node = c.child-node.result; slots = c.in_ok-slots.slots } in
    let made = rw n.1 at c.child-node.ensures.nodes in
    let own = c.in_ok-slots.ensures in
    let runs = rw c.as_slice.ensures.value at own.runs in
    let i = c.insert_reserved-place in
    rw (seen, ← c.self.view_is)
    (becomes_child c.self.inside.chain.nodes c.child-node.new.self.nodes c.self.inside.runs c.share_and_move.new.pool c.self.inside.kept.slots i.new.self.slots i.result one (node_of above.node n.0 c.args.line c.args.instr) c.self.invariant c.child-node.ensures.fresh made refl own.taken own.distinct i.ensures.was_vacant i.ensures.updates.changed i.ensures.updates.others above n.0 c.args.line c.args.instr c.args.moved.items n.1 refl runs)

pub returns-clause-count : goal.returns-clause-count
returns-clause-count g c =
    let i = c.insert_reserved-place in
    rw (← c.self.view_is)
    (omega (arith, i.ensures.len, seen_count c.child-node.new.self.nodes c.share_and_move.new.pool i.new.self.slots, seen_count c.self.inside.chain.nodes c.self.inside.runs c.self.inside.kept.slots))
