use Rattle.std.proofs.Common.{◌∙◌, ap, arith}
use Rattle.ground_state.specs.declared.parts.TaskParts.{TaskParts}
use Rattle.pointer_machine.specs.Operations.{arity_of}
use Rattle.pointer_machine.proofs.Counts.{predicates_narrow, count_fits, few_so_far}
use Rattle.pointer_machine.proofs.operations.count_tests.Goals as goal

pub pow-count-requires : goal.pow-count-requires
pow-count-requires c =
    let narrow = predicates_narrow c.args.task.now _ c.parts.ensures.fit (c.as_slice-predicate-items.ensures ∙ ap (λ (task : TaskParts). task.predicates) c.parts.ensures.parts) in
    let few = few_so_far arity_of c.args.pointers _ _ c.predicate-item.result narrow c.requires c.loop-predicate-test.true c.predicate-item.is in
    rw (c.from.ensures, c.from-in-loop-predicate.ensures) (omega (arith, few.own))

pub overflow_add-count : goal.overflow_add-count
overflow_add-count c =
    let narrow = predicates_narrow c.args.task.now _ c.parts.ensures.fit (c.as_slice-predicate-items.ensures ∙ ap (λ (task : TaskParts). task.predicates) c.parts.ensures.parts) in
    let few = few_so_far arity_of c.args.pointers _ _ c.predicate-item.result narrow c.requires c.loop-predicate-test.true c.predicate-item.is in
    let power = rw (c.from.ensures, c.from-in-loop-predicate.ensures) at c.pow-count.ensures in
    omega (arith, few.own, few.before, power, c.loop-predicate.invariant)

pub returns-clause-fits : goal.returns-clause-fits
returns-clause-fits c =
    let narrow = predicates_narrow c.args.task.now _ c.parts.ensures.fit (c.as_slice-predicate-items.ensures ∙ ap (λ (task : TaskParts). task.predicates) c.parts.ensures.parts) in
    omega (arith, count_fits arity_of c.args.pointers c.loop-predicate.predicate-index _ narrow c.requires, c.loop-predicate.invariant)
