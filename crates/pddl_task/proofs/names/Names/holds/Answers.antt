use Rattle.std.proofs.Common.{sym, ap, ◌∙◌, bytes_eq, vec_items}
use Rattle.pddl_task.specs.Names.{is_among}
use Rattle.pddl_task.proofs.Mapped.{any_mapped}
use Rattle.pddl_task.proofs.names.Names.holds.Goals as goal

pub returns : goal.returns
returns c = c.contains.ensures ∙ sym (any_mapped (bytes_eq c.args.name.now) vec_items c.self.inside.names.keys) ∙ ap (is_among c.args.name.now) c.self.view_is
