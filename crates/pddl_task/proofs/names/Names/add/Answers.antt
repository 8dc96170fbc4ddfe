use Rattle.std.proofs.Common.{not, map, ap, ◌∙◌, vec_items}
use Rattle.pddl_task.specs.Names.{with_name, is_among}
use Rattle.pddl_task.proofs.NamesOf.{with_mapped, among_mapped}
use Rattle.pddl_task.proofs.names.Names.add.Goals as goal

pub returns-clause-added : goal.returns-clause-added
returns-clause-added c =
    c.in_ok-insert.ensures.added
    ∙ among_mapped vec_items c.self.inside.names.keys c.in_ok-from_slice.field-0
    ∙ ap (λ name. not (is_among name (map vec_items c.self.inside.names.keys))) c.in_ok-from_slice.ensures.items
    ∙ ap (λ names. not (is_among c.args.name.now names)) c.self.view_is

pub returns-clause-names : goal.returns-clause-names
returns-clause-names c =
    ap (map vec_items) c.in_ok-insert.ensures.keys
    ∙ with_mapped vec_items c.self.inside.names.keys c.in_ok-from_slice.field-0
    ∙ ap (with_name (map vec_items c.self.inside.names.keys)) c.in_ok-from_slice.ensures.items
    ∙ ap (λ names. with_name names c.args.name.now) c.self.view_is
