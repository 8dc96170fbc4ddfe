use Rattle.std.proofs.Common.{[], ◌∷◌, ◌++◌, codes, ap, ◌∙◌}
use Rattle.pddl_printer.specs.Printing.{spaced, section, domain_section_words, domain_words}
use Rattle.pddl_printer.proofs.Spaced.{adds_more}
use Rattle.pddl_printer.proofs.print.print_domain.Goals as goal

pub returns : goal.returns
unfolding domain_words
returns c =
    let text = c.args.text.now in
    let define = codes "define" ∷ [] in
    let named = section (codes "domain") (text.name.text ∷ []) in
    let sections = domain_section_words text in
    let front = adds_more _ _ _ define named c.in_ok-word.ensures c.in_ok-word_section.ensures in
    let middle = adds_more _ _ _ (define ++ named) sections front c.in_ok-domain_sections.ensures in
    let all = adds_more _ _ _ ((define ++ named) ++ sections) (codes ")" ∷ []) middle c.in_ok-close.ensures in
    record { printed = c.into_vec.ensures ∙ c.in_ok-push.ensures.ok ∙ ap (λ out. out ++ 10 ∷ []) (all ∙ ap (λ out. out ++ spaced (((define ++ named) ++ sections) ++ codes ")" ∷ [])) c.in_ok-out.ensures) }
