use Rattle.std.proofs.Common.{◌∙◌, ◌||◌, sym, ap, bytes_eq}
use Rattle.std.proofs.lemmas.List.Folds.{list_any-append}
use Rattle.pddl_task.specs.Names.{is_among}
use Rattle.pddl_task.proofs.atom_checks.is_known.Goals as goal

pub returns-then-holds : goal.returns-then-holds
returns-then-holds c = c.if-holds.true ∙ sym (list_any-append (bytes_eq c.args.name.now) c.args.one.now c.args.other.now ∙ ap (λ b. b || is_among c.args.name.now c.args.other.now) (sym c.holds.ensures ∙ c.if-holds.true))

pub returns-else-holds : goal.returns-else-holds
returns-else-holds c = c.holds-else-holds.ensures ∙ sym (list_any-append (bytes_eq c.args.name.now) c.args.one.now c.args.other.now ∙ ap (λ b. b || is_among c.args.name.now c.args.other.now) (sym c.holds.ensures ∙ c.if-holds.false))
