use Rattle.std.proofs.Common.{[], ◌∷◌, ◌++◌, codes, ap, ◌∙◌}
use Rattle.pddl_printer.specs.Printing.{spaced, part_words, action_words}
use Rattle.pddl_printer.proofs.Spaced.{adds_more, ends_with}
use Rattle.pddl_printer.proofs.sections.action.Goals as goal

pub returns : goal.returns
unfolding action_words
returns c =
    let action = c.args.action.now in
    let opening = codes "(" ∷ codes ":action" ∷ [] in
    let own = action.name.text ∷ [] in
    let parts = part_words action in
    ends_with c.close.result _ _ _ ((opening ++ own) ++ parts) (codes ")" ∷ [])
    (adds_more _ _ _ (opening ++ own) parts (adds_more _ _ _ opening own c.in_ok-open.ensures (c.in_ok-word.ensures ∙ ap (λ text. c.open.new.out ++ spaced (text ∷ [])) c.as_slice.ensures)) c.in_ok-parts.ensures) c.close.ensures
