use Rattle.std.proofs.Common.{◌∙◌, ap, not, rules, tests}
use Rattle.std.specs.Prelude.{take_while, ◌==◌}
use Rattle.std.specs.List.{list_any}
use Rattle.std.proofs.lemmas.Iterator.{YieldsList-from_slice}
use Rattle.std.proofs.lemmas.Iterator.Search.{any_from_yields_List}
use Rattle.program_text.specs.Lines.{is_blank}
use Rattle.program_text.proofs.LineWords.{words_there}
use Rattle.program_text.proofs.lines.has_words.Goals as goal

pub returns : goal.returns
returns c =
    any_from_yields_List (λ b. not (is_blank b)) _ _ c.any.result c.any.ensures.ran (YieldsList-from_slice c.before_comment.result.now (cc)) (λ x b q k. search (rules, tests))
    ∙ ap (list_any (λ b. not (is_blank b))) c.before_comment.ensures
    ∙ words_there (take_while (λ b. not (b == 59)) c.args.line.now)
