use Rattle.std.proofs.Common.{◌∙◌, length, rules, tests, arith}
use Rattle.std.proofs.lemmas.Iterator.{YieldsList-from_range}
use Rattle.std.proofs.lemmas.Iterator.Consumers.{YieldsList-at, YieldsList-from_filter, count_from_yields_List}
use Rattle.program_model.specs.Program.{line_at}
use Rattle.evaluations.proofs.Lines.{jumps_on, jumps_counted}
use Rattle.evaluations.proofs.values.jumps.Goals as goal

pub returns : goal.returns
returns c =
    let program = c.args.partial.now in
    count_from_yields_List c.filter.result _ c.count.ensures.ran
    (YieldsList-from_filter _ (λ line. jumps_on (line_at program line))
    (YieldsList-at c.filter.ensures.source (YieldsList-from_range 0 c.lines.result (length program) (cc) (omega (arith, c.lines.ensures.count))))
    c.filter.ensures.closure (λ x b q k. search (rules, tests)))
    ∙ jumps_counted program
