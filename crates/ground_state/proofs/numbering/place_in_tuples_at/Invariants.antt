use Rattle.std.proofs.Common.{◌≡◌, Some, take, slice_get, map}
use Rattle.ground_state.specs.GroundAtoms.{tuples}
use Rattle.ground_state.specs.Action.{object_of}
use Rattle.ground_state.proofs.numbering.place_in_tuples_at.Given as goal

abbrev pub invariant-loop-term : goal.invariant-loop-term
invariant-loop-term l = slice_get (tuples l.objects l.term-index) l.place ≡ Some (map (object_of l.args) (take l.term-index l.terms))
