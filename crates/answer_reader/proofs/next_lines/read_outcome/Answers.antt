use Rattle.answer_lines.specs.Lines.{IsVerdictOf}
use Rattle.answer_reader.proofs.Taken.{no_line_left, told_by}
use Rattle.answer_reader.proofs.next_lines.read_outcome.Goals as goal

pub returns : goal.returns
returns c =
    told_by (λ outcome line. IsVerdictOf c.args.lines c.args.instances line outcome) c.args.reader.now c.next_line.new.self c.in_ok-line.line.now c.number-number.result c.verdict_of.result c.ok_or.result
    c.ok_or.ensures.value c.number-number.ensures c.in_ok-line.ensures.ok c.verdict_of.ensures.some c.verdict_of.ensures.none

pub returns-in_err-line : goal.returns-in_err-line
returns-in_err-line c = no_line_left (λ outcome line. IsVerdictOf c.args.lines c.args.instances line outcome) c.args.reader.now c.next_line.new.self c.in_err-line.field-0.0 c.from_residual.result c.from_residual.ensures.1 c.in_err-line.ensures.number c.in_err-line.ensures.none
