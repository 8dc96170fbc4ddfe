use Rattle.pddl_forms.proofs.ConjunctionRules.{change_body_stays}
use Rattle.pddl_forms.proofs.formulas.effect.Goals as goal

pub conjunction-requires : goal.conjunction-requires
conjunction-requires c = change_body_stays
