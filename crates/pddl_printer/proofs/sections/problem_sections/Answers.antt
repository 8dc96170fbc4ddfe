use Rattle.std.proofs.Common.{[], ◌∷◌, ◌++◌, codes}
use Rattle.std.specs.List.{flat_map}
use Rattle.pddl_printer.specs.Printing.{section, texts_of, typed_words, atom_words, formula_words, problem_section_words}
use Rattle.pddl_printer.proofs.Spaced.{adds_more, ends_with}
use Rattle.pddl_printer.proofs.sections.problem_sections.Goals as goal

pub returns : goal.returns
unfolding problem_section_words
returns c =
    let problem = c.args.problem.now in
    let domain = section (codes ":domain") (problem.domain.text ∷ []) in
    let requirements = section (codes ":requirements") (texts_of problem.requirements) in
    let objects = section (codes ":objects") (typed_words problem.objects) in
    let init = section (codes ":init") (flat_map atom_words problem.init) in
    let goals = section (codes ":goal") (formula_words problem.goal) in
    let two = adds_more _ _ _ domain requirements c.in_ok-word_section.ensures c.in_ok-words_section.ensures in
    let three = adds_more _ _ _ (domain ++ requirements) objects two c.in_ok-typed_section.ensures in
    let four = adds_more _ _ _ ((domain ++ requirements) ++ objects) init three c.in_ok-init_section.ensures in
    ends_with c.goal_section.result _ _ _ (((domain ++ requirements) ++ objects) ++ init) goals four c.goal_section.ensures
