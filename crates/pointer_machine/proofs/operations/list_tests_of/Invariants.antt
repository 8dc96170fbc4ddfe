use Rattle.std.proofs.Common.{◌≡◌, ◌++◌, map, take}
use Rattle.ground_state.specs.GroundAtoms.{tuples}
use Rattle.pointer_machine.specs.declared.form.Form.TheVariants.{Test}
use Rattle.pointer_machine.proofs.operations.list_tests_of.Given as goal

abbrev pub invariant-loop-place : goal.invariant-loop-place
invariant-loop-place l = l.listed.items ≡ l.fn.listed.items ++ map (λ args. Test l.pred args) (take l.place (tuples l.pointers l.arity))
