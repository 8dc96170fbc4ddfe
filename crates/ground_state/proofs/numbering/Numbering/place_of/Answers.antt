use Rattle.std.proofs.Common.{◌<◌, ◌∙◌, length, arith}
use Rattle.std.proofs.lemmas.Option.{slice_get_within}
use Rattle.ground_state.proofs.Counts.{atoms_before, atom_below, item_read}
use Rattle.ground_state.proofs.Places.{ground_atom_place}
use Rattle.ground_state.proofs.numbering.Numbering.place_of.Goals as goal

pub place_in_tuples-requires-clause-few : goal.place_in_tuples-requires-clause-few
place_in_tuples-requires-clause-few c =
    let known = rw (← c.self.view_is) at c.requires.arity in
    let own = atoms_before c.self.inside.objects c.args.pred (length c.args.args.now) c.self.inside.arities.items known in
    rw c.from.ensures (omega (arith, own, c.self.invariant.0, c.self.invariant.1))

pub overflow_add-result : goal.overflow_add-result
overflow_add-result c =
    let inside = c.self.inside in
    let known = rw (← c.self.view_is) at c.requires.arity in
    let here = rw c.from.ensures at c.place_in_tuples.ensures in
    let within : c.args.pred < length inside.firsts.items = omega (arith, slice_get_within inside.arities.items c.args.pred (length c.args.args.now) known, c.self.invariant.2) in
    let first = item_read inside.firsts.items c.args.pred c.index.result.now within c.index.ensures ∙ c.self.invariant.3 c.args.pred within in
    let below = atom_below inside.objects c.args.pred (length c.args.args.now) c.place_in_tuples.result inside.arities.items c.args.args.now known here in
    omega (arith, first, below, c.self.invariant.0, c.self.invariant.1)

pub returns : goal.returns
returns c =
    let inside = c.self.inside in
    let known = rw (← c.self.view_is) at c.requires.arity in
    let here = rw c.from.ensures at c.place_in_tuples.ensures in
    let within : c.args.pred < length inside.firsts.items = omega (arith, slice_get_within inside.arities.items c.args.pred (length c.args.args.now) known, c.self.invariant.2) in
    let first = item_read inside.firsts.items c.args.pred c.index.result.now within c.index.ensures ∙ c.self.invariant.3 c.args.pred within in
    rw (← c.self.view_is) (ground_atom_place inside.objects c.args.pred c.index.result.now c.place_in_tuples.result inside.arities.items c.args.args.now known first here)
