use Rattle.std.proofs.Common.{ℕ, List, [], ◌∷◌, ◌++◌, ◌∙◌, ap}
use Rattle.std.specs.Prelude.{codes}
use Rattle.flag_rules.specs.Line.{then_number}
use Rattle.program_text.proofs.Gathering.{all_gathered}
use Rattle.answer_writer.specs.Document.{verdict_line}
use Rattle.answer_writer.proofs.Puts.{then_lines, first_stopped, before_lines}
use Rattle.refutation_tree.specs.Splits.{splits_of}
use Rattle.summary_writer.proofs.writing.add_result.Goals as goal

pub returns-in_err-add_verdict : goal.returns-in_err-add_verdict
returns-in_err-add_verdict g c =
    let written = g.K.Sink.written in
    let faults = g.K.Sink.faults in
    let answer = c.args.answer.now in
    let verdict : List (List ℕ) = verdict_line answer.outcome ∷ [] in
    let splits : List (List ℕ) = (codes "splits" ++ then_number (splits_of answer.trees)) ∷ [] in
    before_lines written faults c.args.sink.now c.add_verdict.new.sink c.args.gathered.now c.add_verdict.new.gathered c.from_residual.result verdict splits c.from_residual.ensures.0
    (first_stopped written faults c.args.sink.now c.add_verdict.new.sink c.args.gathered.now c.add_verdict.new.gathered c.in_err-add_verdict.field-0.0 c.from_residual.result _ c.from_residual.ensures.0 c.in_err-add_verdict.ensures)

pub returns : goal.returns
returns g c =
    let written = g.K.Sink.written in
    let faults = g.K.Sink.faults in
    let answer = c.args.answer.now in
    let verdict : List (List ℕ) = verdict_line answer.outcome ∷ [] in
    let splits : List (List ℕ) = (codes "splits" ++ then_number (splits_of answer.trees)) ∷ [] in
    let counted = c.splits_of.ensures ∙ ap splits_of c.as_slice.ensures in
    let line_is = c.splits_line.ensures ∙ ap (λ (n : ℕ). codes "splits" ++ then_number n) counted in
    then_lines written faults c.args.sink.now c.add_verdict.new.sink c.add_line.new.sink c.args.gathered.now c.add_verdict.new.gathered c.add_line.new.gathered c.add_line.result verdict splits
    (all_gathered written faults c.args.sink.now c.add_verdict.new.sink c.args.gathered.now c.add_verdict.new.gathered c.in_ok-add_verdict.field-0 _ c.in_ok-add_verdict.ensures)
    (rw line_is at c.add_line.ensures)
