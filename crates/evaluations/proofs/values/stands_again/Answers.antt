use Rattle.std.proofs.Common.{◌∙◌, ◌+◌, ◌-◌, sym, ap, drop, length, rules, tests}
use Rattle.std.proofs.lemmas.Iterator.{YieldsList-from_range}
use Rattle.std.proofs.lemmas.Iterator.Search.{any_from_yields_List}
use Rattle.program_model.specs.Program.{line_at}
use Rattle.evaluations.specs.Evaluations.{instrs_of}
use Rattle.evaluations.specs.Inner.Lines.{is_among}
use Rattle.evaluations.proofs.Later.{has_instr, later_found}
use Rattle.evaluations.proofs.values.stands_again.Goals as goal

pub returns-in-Some : goal.returns-in-Some
returns-in-Some c =
    let program = c.args.partial.now in
    any_from_yields_List (λ later. has_instr c.in-Some.instr (line_at program later)) _ _ c.any.result c.any.ensures.ran
    (YieldsList-from_range (c.args.line + 1) c.lines.result (length program - (c.args.line + 1)) (cc) (ap (λ n. n - (c.args.line + 1)) c.lines.ensures.count)) (λ x b q k. search (rules, tests))
    ∙ later_found c.in-Some.instr program (c.args.line + 1)
    ∙ ap (is_among (instrs_of (drop (c.args.line + 1) program))) (sym c.in-Some.is ∙ c.at.ensures.value)
