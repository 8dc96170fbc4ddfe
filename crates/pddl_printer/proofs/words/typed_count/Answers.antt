use Rattle.std.proofs.Common.{◌≡◌, ◌+◌, true, false, [], ◌∷◌, ◌++◌, length, take, ap, sym, ◌∙◌, arith}
use Rattle.std.proofs.lemmas.List.{take_more, length-take-le}
use Rattle.pddl_forms.specs.declared.texts.Typed.{Typed}
use Rattle.pddl_printer.specs.Printing.{has_type}
use Rattle.pddl_printer.proofs.TypedCount.{counts_more}
use Rattle.pddl_printer.proofs.words.typed_count.Goals as goal
use Rattle.pddl_printer.proofs.words.typed_count.Goals.{then-is_some, else-is_some}

pub loop-index-preserved : goal.loop-index-preserved
loop-index-preserved c =
    let i = c.loop-index.index in
    let count = c.loop-index.count in
    let next = c.if-is_some.count in
    let names = c.args.names.now in
    let x = c.index-names-index.result in
    let size : length (take i names) ≡ i = length-take-le i names (omega arith) in
    let grown : take (i + 1) names ≡ take i names ++ x ∷ [] = take_more names i x c.loop-index-test.true ∙ ap (λ (y : Typed). take i names ++ y ∷ []) (sym c.index-names-index.is) in
    let yes : has_type x ≡ true → next ≡ length (take i names) + 1 = λ some. elim c.if-is_some.branch [ then-is_some w ↦ cc | else-is_some w ↦ absurd (cc) ] in
    let no : has_type x ≡ false → next ≡ count = λ none. elim c.if-is_some.branch [ then-is_some w ↦ absurd (cc) | else-is_some w ↦ cc ] in
    record {
      within = elim c.if-is_some.branch [ then-is_some w ↦ omega arith | else-is_some w ↦ omega arith ];
      counts = rw grown (counts_more has_type (take i names) x count next (omega (arith, c.loop-index.invariant.within)) c.loop-index.invariant.counts yes no);
    }
