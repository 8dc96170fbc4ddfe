use Rattle.std.proofs.Common.{◌∙◌, ap, arith}
use Rattle.ground_state.specs.declared.parts.TaskParts.{TaskParts}
use Rattle.pointer_machine.specs.Operations.{params_of}
use Rattle.pointer_machine.proofs.Counts.{schemas_narrow, count_fits, few_so_far}
use Rattle.pointer_machine.proofs.operations.count_acts.Goals as goal

pub pow-count-requires : goal.pow-count-requires
pow-count-requires c =
    let narrow = schemas_narrow c.args.task.now _ c.parts.ensures.fit (c.as_slice-schema-items.ensures ∙ ap (λ (task : TaskParts). task.schemas) c.parts.ensures.parts) in
    let few = few_so_far params_of c.args.pointers _ _ c.schema-item.result narrow c.requires c.loop-schema-test.true c.schema-item.is in
    rw (c.from.ensures, c.len.ensures) (omega (arith, few.own))

pub overflow_add-count : goal.overflow_add-count
overflow_add-count c =
    let narrow = schemas_narrow c.args.task.now _ c.parts.ensures.fit (c.as_slice-schema-items.ensures ∙ ap (λ (task : TaskParts). task.schemas) c.parts.ensures.parts) in
    let few = few_so_far params_of c.args.pointers _ _ c.schema-item.result narrow c.requires c.loop-schema-test.true c.schema-item.is in
    let power = rw (c.from.ensures, c.len.ensures) at c.pow-count.ensures in
    omega (arith, few.own, few.before, power, c.loop-schema.invariant)

pub returns-clause-fits : goal.returns-clause-fits
returns-clause-fits c =
    let narrow = schemas_narrow c.args.task.now _ c.parts.ensures.fit (c.as_slice-schema-items.ensures ∙ ap (λ (task : TaskParts). task.schemas) c.parts.ensures.parts) in
    omega (arith, count_fits params_of c.args.pointers c.loop-schema.schema-index _ narrow c.requires, c.loop-schema.invariant)
