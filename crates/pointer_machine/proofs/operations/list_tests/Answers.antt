use Rattle.std.proofs.Common.{◌∙◌, ap, ◌++◌}
use Rattle.ground_state.specs.declared.parts.TaskParts.{TaskParts}
use Rattle.pointer_machine.specs.declared.form.Form.TheVariants.{Test}
use Rattle.pointer_machine.specs.Operations.{by_entry, arity_of}
use Rattle.pointer_machine.proofs.Lists.{entry_more, entries_all}
use Rattle.pointer_machine.proofs.operations.list_tests.Goals as goal

pub loop-pred-preserved : goal.loop-pred-preserved
loop-pred-preserved c =
    let added = c.in_ok-list_tests_of.ensures in
    entry_more arity_of (λ pred args. Test pred args) c.args.pointers c.loop-pred.pred _ c.entry-item.result _ _ _ c.loop-pred-test.true c.entry-item.is added c.loop-pred.invariant

pub returns : goal.returns
returns c =
    let same = c.as_slice-entry-items.ensures ∙ ap (λ (task : TaskParts). task.predicates) c.parts.ensures.parts in
    entries_all arity_of (λ pred args. Test pred args) c.args.pointers c.loop-pred.pred _ _ c.loop-pred-test.false ∙ c.loop-pred.invariant ∙ ap (λ entries. c.args.listed.now.items ++ by_entry arity_of (λ pred args. Test pred args) c.args.pointers 0 entries) same
