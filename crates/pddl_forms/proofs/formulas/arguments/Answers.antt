use Rattle.pddl_forms.proofs.Exact.{term_shrinks}
use Rattle.pddl_forms.proofs.formulas.arguments.Goals as goal

pub items-requires : goal.items-requires
items-requires c = term_shrinks c.args.terms
