use Rattle.std.proofs.Common.{◌≡◌, ◌++◌, drop}
use Rattle.pointer_machine.specs.declared.form.Form.TheVariants.{Act}
use Rattle.pointer_machine.specs.Operations.{by_entry, params_of}
use Rattle.pointer_machine.proofs.operations.list_acts.Given as goal

abbrev pub invariant-loop-schema : goal.invariant-loop-schema
invariant-loop-schema l =
    l.listed.items ++ by_entry params_of (λ schema args. Act schema args) l.pointers l.schema (drop l.schema l.entry-items) ≡ l.fn.listed.items ++ by_entry params_of (λ schema args. Act schema args) l.pointers 0 l.entry-items
