use Rattle.std.proofs.Common.{[], ◌∷◌, codes}
use Rattle.pddl_printer.specs.Printing.{formula_words}
use Rattle.pddl_printer.proofs.Spaced.{ends_with}
use Rattle.pddl_printer.proofs.sections.precondition.Goals as goal

pub returns : goal.returns
returns c = ends_with c.formula.result _ _ _ (codes ":precondition" ∷ []) (formula_words c.args.pre.now) c.in_ok-word.ensures c.formula.ensures
