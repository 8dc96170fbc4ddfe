use Rattle.std.proofs.Common.{sym, ◌∙◌}
use Rattle.refutation_check.proofs.Lines.{has_instr_where}
use Rattle.refutation_check.proofs.grammar.has_instr.Goals as goal

pub returns-in-Some : goal.returns-in-Some
returns-in-Some c =
    has_instr_where c.args.ops c.lines.result c.args.program.now c.args.line c.in-Some.instr c.rank_of.result c.is_some.result (sym c.at.ensures.value ∙ c.in-Some.is) c.lines.ensures.count c.rank_of.ensures.some c.rank_of.ensures.none c.is_some.ensures
