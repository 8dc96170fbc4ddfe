use Rattle.std.proofs.Common.{◌≡◌, ◌∙◌, length, rules, tests, arith}
use Rattle.std.specs.Prelude.{filter, ◌==◌}
use Rattle.std.proofs.lemmas.Iterator.Consumers.{YieldsList-at, YieldsList-from_filter, count_from_yields_List}
use Rattle.std.proofs.lemmas.Iterator.Splits.{YieldsList-from_slice_split}
use Rattle.program_text.specs.Lines.{lines_of_text, has_words}
use Rattle.program_text.proofs.Numbered.{count_numbered, few_filtered}
use Rattle.program_text.proofs.lines.count_lines.Goals as goal

pub returns : goal.returns
returns c =
    let bytes = c.args.bytes.now in
    let counted : c.count.result ≡ length (filter has_words (lines_of_text bytes)) =
    count_from_yields_List c.filter.result _ c.count.ensures.ran
    (YieldsList-from_filter _ has_words
    (YieldsList-at c.filter.ensures.source (YieldsList-from_slice_split _ (λ b. b == 10) bytes c.split.ensures.rest c.split.ensures.done c.split.ensures.closure (λ x b q k. search (rules, tests))))
    c.filter.ensures.closure (λ x b q k. search (rules, tests))) in
    record { count = counted ∙ count_numbered 1 (lines_of_text bytes); few = omega (arith, counted, few_filtered bytes) }
