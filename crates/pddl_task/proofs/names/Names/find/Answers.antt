use Rattle.std.proofs.Common.{sym, ap, ◌∙◌, bytes_eq, vec_items}
use Rattle.pddl_task.specs.Inner.Names.{place_among}
use Rattle.pddl_task.proofs.Mapped.{place_mapped}
use Rattle.pddl_task.proofs.names.Names.find.Goals as goal

pub returns : goal.returns
returns c = c.get_index_of.ensures.index ∙ sym (place_mapped (bytes_eq c.args.name.now) vec_items c.self.inside.names.keys) ∙ ap (λ names. place_among names c.args.name.now) c.self.view_is
