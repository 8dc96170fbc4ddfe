use Rattle.std.proofs.Common.{◌<◌, ◌∙◌, length, map, arith}
use Rattle.std.proofs.lemmas.Option.{slice_get_within}
use Rattle.std.proofs.lemmas.List.{length-map}
use Rattle.ground_state.specs.Action.{object_of}
use Rattle.ground_state.proofs.Counts.{atoms_before, atom_below, item_read}
use Rattle.ground_state.proofs.Places.{ground_atom_place}
use Rattle.ground_state.proofs.numbering.Numbering.place_at.Goals as goal

pub place_in_tuples_at-place-requires-clause-few : goal.place_in_tuples_at-place-requires-clause-few
place_in_tuples_at-place-requires-clause-few c =
    let known = rw (← c.self.view_is, length-map c.args.atom.now.args (object_of c.args.args.now)) at c.requires.fact.arity in
    let own = atoms_before c.self.inside.objects c.args.atom.now.pred _ c.self.inside.arities.items known in
    rw (c.from.ensures, c.as_slice.ensures) (omega (arith, own, c.self.invariant.0, c.self.invariant.1))

pub index-requires : goal.index-requires
index-requires c =
    let known = rw (← c.self.view_is) at c.requires.fact.arity in
    omega (arith, slice_get_within c.self.inside.arities.items c.args.atom.now.pred _ known, c.self.invariant.2)

pub overflow_add-result : goal.overflow_add-result
overflow_add-result c =
    let inside = c.self.inside in
    let known = rw (← c.self.view_is, length-map c.args.atom.now.args (object_of c.args.args.now)) at c.requires.fact.arity in
    let here = rw (c.from.ensures, c.as_slice.ensures) at c.place_in_tuples_at-place.ensures in
    let within : c.args.atom.now.pred < length inside.firsts.items = omega (arith, slice_get_within inside.arities.items c.args.atom.now.pred _ known, c.self.invariant.2) in
    let first = item_read inside.firsts.items c.args.atom.now.pred c.index.result.now within c.index.ensures ∙ c.self.invariant.3 c.args.atom.now.pred within in
    let below = atom_below inside.objects c.args.atom.now.pred _ c.place_in_tuples_at-place.result inside.arities.items _ known here in
    omega (arith, first, below, c.self.invariant.0, c.self.invariant.1)

pub returns : goal.returns
returns c =
    let inside = c.self.inside in
    let args = map (object_of c.args.args.now) c.args.atom.now.args in
    let known = rw (← c.self.view_is) at c.requires.fact.arity in
    let here = rw (c.from.ensures, c.as_slice.ensures, ← length-map c.args.atom.now.args (object_of c.args.args.now)) at c.place_in_tuples_at-place.ensures in
    let within : c.args.atom.now.pred < length inside.firsts.items = omega (arith, slice_get_within inside.arities.items c.args.atom.now.pred _ known, c.self.invariant.2) in
    let first = item_read inside.firsts.items c.args.atom.now.pred c.index.result.now within c.index.ensures ∙ c.self.invariant.3 c.args.atom.now.pred within in
    rw (← c.self.view_is) (ground_atom_place inside.objects c.args.atom.now.pred c.index.result.now c.place_in_tuples_at-place.result inside.arities.items args known first here)
