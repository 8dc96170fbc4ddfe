use Rattle.std.proofs.Common.{◌∙◌, sym, arith}
use Rattle.std.proofs.lemmas.Bool.{false≢true}
use Rattle.answer_lines.proofs.ReadLines.{none_said}
use Rattle.answer_reader.proofs.MarksOn.{mark_alone, none_marks}
use Rattle.answer_reader.proofs.next_lines.mark_on.Goals as goal

pub returns-in_err-mark-clause-none : goal.returns-in_err-mark-clause-none
returns-in_err-mark-clause-none c = none_said c.from_residual.result _ (λ mark is. c.in_err-mark.ensures.none mark (mark_alone c.args.instances c.args.program.now c.args.line.now mark c.lines-lines.ensures.few is))

pub returns-else-may_mark-clause-none : goal.returns-else-may_mark-clause-none
returns-else-may_mark-clause-none c = λ mark is. none_marks c.args.instances c.args.program.now c.args.line.now c.in_ok-mark.mark mark (omega arith) c.lines-lines.ensures.few c.in_ok-mark.ensures.some (λ may. false≢true (sym c.if-may_mark.false ∙ c.may_mark.ensures.no may)) is
