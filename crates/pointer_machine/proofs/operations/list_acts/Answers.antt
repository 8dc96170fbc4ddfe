use Rattle.std.proofs.Common.{◌∙◌, ap, ◌++◌, map}
use Rattle.ground_state.specs.declared.parts.TaskParts.{TaskParts}
use Rattle.ground_state.specs.GroundAtoms.{tuples}
use Rattle.pointer_machine.specs.declared.form.Form.TheVariants.{Act}
use Rattle.pointer_machine.specs.Operations.{by_entry, params_of}
use Rattle.pointer_machine.proofs.Lists.{entry_more, entries_all}
use Rattle.pointer_machine.proofs.operations.list_acts.Goals as goal

pub loop-schema-preserved : goal.loop-schema-preserved
loop-schema-preserved c =
    let added = c.in_ok-list_acts_of.ensures ∙ ap (λ params. c.loop-schema.listed.items ++ map (λ args. Act c.loop-schema.schema args) (tuples c.args.pointers params)) c.len.ensures in
    entry_more params_of (λ schema args. Act schema args) c.args.pointers c.loop-schema.schema _ c.entry-item.result _ _ _ c.loop-schema-test.true c.entry-item.is added c.loop-schema.invariant

pub returns : goal.returns
returns c =
    let same = c.as_slice-entry-items.ensures ∙ ap (λ (task : TaskParts). task.schemas) c.parts.ensures.parts in
    entries_all params_of (λ schema args. Act schema args) c.args.pointers c.loop-schema.schema _ _ c.loop-schema-test.false ∙ c.loop-schema.invariant ∙ ap (λ entries. c.args.listed.now.items ++ by_entry params_of (λ schema args. Act schema args) c.args.pointers 0 entries) same
