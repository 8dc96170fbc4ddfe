use Rattle.std.proofs.Common.{◌∙◌, ap, not, take, rules, tests}
use Rattle.std.specs.Prelude.{◌==◌}
use Rattle.std.proofs.lemmas.Iterator.{YieldsList-from_slice}
use Rattle.std.proofs.lemmas.Iterator.Consumers.{YieldsList-at, count_from_yields_List}
use Rattle.std.proofs.lemmas.Iterator.Search.{YieldsList-from_take_while}
use Rattle.std.proofs.lemmas.List.Folds.{length-prefix_len}
use Rattle.program_text.proofs.lines.before_comment.Goals as goal

pub returns : goal.returns
returns c =
    let line = c.args.line.now in
    ap (λ n. take n line)
    (count_from_yields_List c.take_while.result _ c.count-end.ensures.ran
    (YieldsList-from_take_while _ (λ b. not (b == 59)) (YieldsList-at c.take_while.ensures.source (YieldsList-from_slice line (cc))) c.take_while.ensures.closure c.take_while.ensures.done (λ x b q k. search (rules, tests)))
    ∙ length-prefix_len (λ b. not (b == 59)) line)
