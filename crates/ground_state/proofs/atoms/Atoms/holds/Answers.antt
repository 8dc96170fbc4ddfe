use Rattle.std.proofs.Common.{length, arith}
use Rattle.std.proofs.lemmas.Option.{slice_get_within}
use Rattle.ground_state.specs.GroundAtoms.{ground_atoms}
use Rattle.ground_state.proofs.Places.{length-ground_atoms}
use Rattle.ground_state.proofs.States.{true_at_place}
use Rattle.ground_state.proofs.atoms.Atoms.holds.Goals as goal

pub get-requires : goal.get-requires
get-requires c =
    let objects = length c.table.inside.object_types.items in
    let arities = c.table.inside.numbering.1 in
    let here = rw c.table.invariant.0 at c.place_of.ensures in
    let within = slice_get_within (ground_atoms objects arities) c.place_of.result _ here in
    let state = rw (← c.table.view_is, ← c.self.view_is) at c.requires.state in
    omega (arith, within, length-ground_atoms objects arities, state)

pub returns : goal.returns
returns c =
    let here = rw c.table.invariant.0 at c.place_of.ensures in
    rw (← c.table.view_is, ← c.self.view_is) (true_at_place (length c.table.inside.object_types.items) c.table.inside.numbering.1 c.self.inside.bits _ c.place_of.result c.get.result here c.get.ensures)
