use Rattle.std.proofs.Common.{◌+◌, nat_lt, Bool, List, ◌∷◌, ◌++◌, drop, ap, sym, ◌∙◌}
use Rattle.std.proofs.lemmas.List.{append-nil, drop_all}
use Rattle.pddl_forms.specs.declared.texts.Typed.{Typed}
use Rattle.pddl_printer.specs.Printing.{spaced, type_words, typed_words}
use Rattle.pddl_printer.proofs.Spaced.{goes_on, drop-here}
use Rattle.pddl_printer.proofs.words.typed_list.Goals as goal

pub loop-index-preserved : goal.loop-index-preserved
loop-index-preserved c =
    let items = c.as_slice-names.result.now in
    let i = c.loop-index.index in
    let t = c.index-names-index.result in
    goes_on _ c.loop-index.out c.typed_word.new.out (typed_words (drop i items)) (t.word.text ∷ type_words t.of (nat_lt (i + 1) c.typed_count-count.result)) (typed_words (drop (i + 1) items))
    c.loop-index.invariant
    (ap typed_words (drop-here items i t c.loop-index-test.true c.index-names-index.is) ∙ ap (λ (later : Bool). t.word.text ∷ type_words t.of later ++ typed_words (drop (i + 1) items)) (c.typed_count-count.ensures (i + 1)))
    c.in_ok-typed_word.ensures

pub returns : goal.returns
returns c =
    let items = c.as_slice-names.result.now in
    sym (append-nil c.loop-index.out) ∙ ap (λ (names : List Typed). c.loop-index.out ++ spaced (typed_words names)) (sym (drop_all c.loop-index.index items c.loop-index-test.false))
    ∙ c.loop-index.invariant ∙ ap (λ (names : List Typed). c.args.out.now ++ spaced (typed_words names)) c.as_slice-names.ensures
