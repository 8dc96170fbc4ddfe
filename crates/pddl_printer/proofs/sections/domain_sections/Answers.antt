use Rattle.std.proofs.Common.{◌++◌, codes}
use Rattle.std.specs.List.{flat_map}
use Rattle.pddl_printer.specs.Printing.{section, texts_of, typed_words, predicate_words, action_words, domain_section_words}
use Rattle.pddl_printer.proofs.Spaced.{adds_more, ends_with}
use Rattle.pddl_printer.proofs.sections.domain_sections.Goals as goal

pub returns : goal.returns
unfolding domain_section_words
returns c =
    let domain = c.args.domain.now in
    let requirements = section (codes ":requirements") (texts_of domain.requirements) in
    let types = section (codes ":types") (typed_words domain.types) in
    let constants = section (codes ":constants") (typed_words domain.constants) in
    let predicates = section (codes ":predicates") (flat_map predicate_words domain.predicates) in
    let actions = flat_map action_words domain.actions in
    let two = adds_more _ _ _ requirements types c.in_ok-words_section.ensures c.in_ok-typed_section.ensures in
    let three = adds_more _ _ _ (requirements ++ types) constants two c.in_ok-typed_section-2.ensures in
    let four = adds_more _ _ _ ((requirements ++ types) ++ constants) predicates three c.in_ok-predicates_section.ensures in
    ends_with c.actions.result _ _ _ (((requirements ++ types) ++ constants) ++ predicates) actions four c.actions.ensures
