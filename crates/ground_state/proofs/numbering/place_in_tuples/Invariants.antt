use Rattle.std.proofs.Common.{◌≡◌, Some, take, slice_get}
use Rattle.ground_state.specs.GroundAtoms.{tuples}
use Rattle.ground_state.proofs.numbering.place_in_tuples.Given as goal

abbrev pub invariant-loop-object : goal.invariant-loop-object
invariant-loop-object l = slice_get (tuples l.objects l.object-index) l.place ≡ Some (take l.object-index l.args)
