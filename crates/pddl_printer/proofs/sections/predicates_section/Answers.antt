use Rattle.std.proofs.Common.{[], ◌∷◌, ◌++◌, codes}
use Rattle.std.specs.List.{flat_map}
use Rattle.pddl_printer.specs.Printing.{predicate_words}
use Rattle.pddl_printer.proofs.Spaced.{adds_more, ends_with}
use Rattle.pddl_printer.proofs.sections.predicates_section.Goals as goal

pub returns : goal.returns
returns c =
    let predicates = flat_map predicate_words c.args.all.now in
    let opening = codes "(" ∷ codes ":predicates" ∷ [] in
    ends_with c.close.result _ _ _ (opening ++ predicates) (codes ")" ∷ [])
    (adds_more _ _ _ opening predicates c.in_ok-open.ensures c.in_ok-predicates.ensures) c.close.ensures
