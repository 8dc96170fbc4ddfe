use Rattle.std.proofs.Common.{◌≡◌, ◌∙◌, ap, map}
use Rattle.ground_state.specs.declared.parts.TaskParts.{TaskParts}
use Rattle.ground_state.specs.Action.{grounded}
use Rattle.ground_state.proofs.Acting.{schema_read, action_fits, length-added, length-deleted}
use Rattle.ground_state.proofs.action.apply.Goals as goal

pub delete_at-requires-clause-atoms : goal.delete_at-requires-clause-atoms
delete_at-requires-clause-atoms c =
    let task = c.args.task.now in
    let listed : c.as_slice.result.now ≡ task.schemas = c.as_slice.ensures ∙ ap (λ (task : TaskParts). task.schemas) c.parts.ensures.parts in
    let schema = schema_read task c.args.schema c.index-as_slice-schema.result c.requires.action.known (rw listed at c.index-as_slice-schema.is) in
    let fits = rw (← c.table.view_is) at (action_fits task c.args.table.now c.args.schema c.args.args.now c.parts.ensures.fit c.requires.table c.requires.action) in
    rw (c.as_slice-2.ensures, schema, c.table.invariant.0) fits.del

pub add_at-requires-clause-atoms : goal.add_at-requires-clause-atoms
add_at-requires-clause-atoms c =
    let task = c.args.task.now in
    let listed : c.as_slice.result.now ≡ task.schemas = c.as_slice.ensures ∙ ap (λ (task : TaskParts). task.schemas) c.parts.ensures.parts in
    let schema = schema_read task c.args.schema c.index-as_slice-schema.result c.requires.action.known (rw listed at c.index-as_slice-schema.is) in
    let fits = rw (← c.table.view_is) at (action_fits task c.args.table.now c.args.schema c.args.args.now c.parts.ensures.fit c.requires.table c.requires.action) in
    rw (c.as_slice-3.ensures, schema, c.table.invariant.0) fits.add

pub add_at-requires-clause-state : goal.add_at-requires-clause-state
add_at-requires-clause-state c =
    let start = rw (← c.table.view_is, ← c.atoms.view_is, ← c.table.invariant.0) at c.requires.state in
    rw c.delete_at.ensures (length-deleted c.table.inside.numbering.0 c.table.inside.numbering.1 c.atoms.inside.bits (map (grounded c.args.args.now) c.as_slice-2.result.now) start)

pub returns-clause-fits : goal.returns-clause-fits
returns-clause-fits c =
    let numbering = c.table.inside.numbering in
    let args = c.args.args.now in
    let start = rw (← c.table.view_is, ← c.atoms.view_is, ← c.table.invariant.0) at c.requires.state in
    let between = rw (← c.delete_at.ensures) at (length-deleted numbering.0 numbering.1 c.atoms.inside.bits (map (grounded args) c.as_slice-2.result.now) start) in
    rw (← c.table.view_is, ← c.table.invariant.0, c.add_at.ensures) (length-added numbering.0 numbering.1 c.delete_at.new.state (map (grounded args) c.as_slice-3.result.now) between)
