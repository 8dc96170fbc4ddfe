use Rattle.std.proofs.Common.{◌≡◌, ◌∙◌, ap, arith}
use Rattle.std.proofs.lemmas.Grind.{common_steps}
use Rattle.ground_state.specs.declared.parts.TaskParts.{TaskParts}
use Rattle.ground_state.specs.Action.{is_applicable}
use Rattle.ground_state.proofs.Acting.{schema_read, action_fits, applicable_exactly, object_types_known}
use Rattle.ground_state.proofs.action.can_apply.Goals as goal

pub are_of_types-requires-clause-known : goal.are_of_types-requires-clause-known
are_of_types-requires-clause-known c =
    let types : c.as_slice-types.result.now ≡ c.args.task.now.types = c.as_slice-types.ensures ∙ ap (λ (task : TaskParts). task.types) c.parts.ensures.parts in
    rw (c.object_types.ensures, types) (object_types_known c.args.task.now c.args.table.now c.requires.table)

pub are_true_at-requires-clause-atoms : goal.are_true_at-requires-clause-atoms
are_true_at-requires-clause-atoms c =
    let task = c.args.task.now in
    let listed : c.as_slice.result.now ≡ task.schemas = c.as_slice.ensures ∙ ap (λ (task : TaskParts). task.schemas) c.parts-2.ensures.parts in
    let schema = schema_read task c.args.schema c.index-as_slice-schema.result c.requires.action.known (rw listed at c.index-as_slice-schema.is) in
    let fits = rw (← c.table.view_is) at (action_fits task c.args.table.now c.args.schema c.args.args.now c.parts.ensures.fit c.requires.table c.requires.action) in
    rw (c.as_slice-then-are_of_types.ensures, schema, c.table.invariant.0) fits.pre

pub returns-then-are_of_types-clause-applicable : goal.returns-then-are_of_types-clause-applicable
returns-then-are_of_types-clause-applicable c =
    let tested : c.are_true_at.result ≡ is_applicable c.args.task.now c.args.table.now c.args.schema c.args.args.now c.args.atoms.now = grind (arith, common_steps) in
    applicable_exactly c.args.task.now c.args.table.now c.args.schema c.args.args.now c.args.atoms.now c.are_true_at.result c.parts.ensures.fit c.requires.action tested

pub returns-else-are_of_types-clause-applicable : goal.returns-else-are_of_types-clause-applicable
returns-else-are_of_types-clause-applicable c =
    let tested : c.are_of_types.result ≡ is_applicable c.args.task.now c.args.table.now c.args.schema c.args.args.now c.args.atoms.now = grind (arith, common_steps) in
    applicable_exactly c.args.task.now c.args.table.now c.args.schema c.args.args.now c.args.atoms.now c.are_of_types.result c.parts.ensures.fit c.requires.action tested
