use Rattle.std.proofs.Common.{◌+◌, List, [], ◌∷◌, ◌++◌, drop, ap, sym, ◌∙◌}
use Rattle.std.proofs.lemmas.List.{append-nil, drop_all}
use Rattle.pddl_forms.specs.declared.texts.Word.{Word}
use Rattle.pddl_printer.specs.Printing.{spaced, texts_of}
use Rattle.pddl_printer.proofs.Spaced.{goes_on, drop-here}
use Rattle.pddl_printer.proofs.words.words.Goals as goal

pub loop-each-preserved : goal.loop-each-preserved
loop-each-preserved c =
    let items = c.as_slice-each-items.result.now in
    let w = c.each-item.result in
    goes_on _ c.loop-each.out c.word.new.out (texts_of (drop c.loop-each.each-index items)) (w.text ∷ []) (texts_of (drop (c.loop-each.each-index + 1) items))
    c.loop-each.invariant (ap texts_of (drop-here items c.loop-each.each-index w c.loop-each-test.true c.each-item.is)) (c.in_ok-word.ensures ∙ ap (λ text. c.loop-each.out ++ spaced (text ∷ [])) c.as_slice.ensures)

pub returns : goal.returns
returns c =
    let items = c.as_slice-each-items.result.now in
    sym (append-nil c.loop-each.out) ∙ ap (λ (words : List Word). c.loop-each.out ++ spaced (texts_of words)) (sym (drop_all c.loop-each.each-index items c.loop-each-test.false))
    ∙ c.loop-each.invariant ∙ ap (λ (words : List Word). c.args.out.now ++ spaced (texts_of words)) c.as_slice-each-items.ensures
