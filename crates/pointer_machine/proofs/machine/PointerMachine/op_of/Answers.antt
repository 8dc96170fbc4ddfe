use Rattle.std.proofs.Common.{◌∙◌, ap, arith, length}
use Rattle.std.proofs.lemmas.Option.{slice_get_within}
use Rattle.pointer_machine.proofs.Counts.{length-operations}
use Rattle.pointer_machine.proofs.machine.PointerMachine.op_of.Goals as goal

pub returns-in_err-op : goal.returns-in_err-op
returns-in_err-op c =
    rw (c.from_residual.ensures, ← c.self.view_is) (rw (c.as_slice.ensures.value ∙ c.self.invariant.1) at c.in_err-op.ensures)

pub overflow_cast-result : goal.overflow_cast-result
overflow_cast-result c =
    let same = c.as_slice.ensures.value ∙ c.self.invariant.1 in
    omega (arith, slice_get_within c.as_slice.result.now c.in_ok-op.op c.args.form.now c.in_ok-op.ensures, ap length same, length-operations c.self.inside.task c.self.inside.pointers, c.self.invariant.0.few_operations)

pub returns : goal.returns
returns c =
    rw (← c.self.view_is) (rw (c.as_slice.ensures.value ∙ c.self.invariant.1) at c.in_ok-op.ensures)
