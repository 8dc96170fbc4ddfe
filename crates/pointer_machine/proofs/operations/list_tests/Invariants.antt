use Rattle.std.proofs.Common.{◌≡◌, ◌++◌, drop}
use Rattle.pointer_machine.specs.declared.form.Form.TheVariants.{Test}
use Rattle.pointer_machine.specs.Operations.{by_entry, arity_of}
use Rattle.pointer_machine.proofs.operations.list_tests.Given as goal

abbrev pub invariant-loop-pred : goal.invariant-loop-pred
invariant-loop-pred l =
    l.listed.items ++ by_entry arity_of (λ pred args. Test pred args) l.pointers l.pred (drop l.pred l.entry-items) ≡ l.fn.listed.items ++ by_entry arity_of (λ pred args. Test pred args) l.pointers 0 l.entry-items
