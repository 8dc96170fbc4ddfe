use Rattle.pddl_forms.proofs.ConjunctionRules.{atom_body_stays}
use Rattle.pddl_forms.proofs.formulas.formula.Goals as goal

pub conjunction-requires : goal.conjunction-requires
conjunction-requires c = atom_body_stays c.args.terms
