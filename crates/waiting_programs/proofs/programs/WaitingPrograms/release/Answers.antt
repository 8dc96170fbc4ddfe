-- The program is taken out, and then what it held is given up.
use Rattle.waiting_programs.proofs.Sharing.{shared_left, becomes_left}
use Rattle.waiting_programs.proofs.programs.WaitingPrograms.release.Goals as goal

pub invariant_of-self : goal.invariant_of-self
invariant_of-self g c =
    let r = c.remove-node in
    let released = rw c.as_slice.ensures.value at c.release_all.ensures.released in
    shared_left c.self.inside.chain.nodes c.release.new.self.nodes c.self.inside.runs c.release_all.new.pool c.self.inside.kept.slots r.new.self.slots c.id.inside.place r.result c.self.invariant r.ensures.value r.ensures.updates.changed r.ensures.updates.others c.release.ensures.nodes released

pub returns-clause-kept : goal.returns-clause-kept
returns-clause-kept g c =
    let r = c.remove-node in
    let released = rw c.as_slice.ensures.value at c.release_all.ensures.released in
    rw (← c.self.view_is, ← c.id.view_is) (becomes_left c.self.inside.chain.nodes c.release.new.self.nodes c.self.inside.runs c.release_all.new.pool c.self.inside.kept.slots r.new.self.slots c.id.inside.place r.result c.self.invariant r.ensures.value r.ensures.updates.changed r.ensures.updates.others c.release.ensures.nodes released)
