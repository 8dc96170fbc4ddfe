use Rattle.std.proofs.Common.{[], ◌∷◌, flat_map}
use Rattle.program_text.proofs.Gathering.{all_gathered}
use Rattle.answer_writer.specs.Document.{verdict_line, tree_lines}
use Rattle.answer_writer.proofs.Puts.{then_lines, first_stopped, before_lines}
use Rattle.answer_writer.proofs.writing.add_evidence.Goals as goal

pub returns-in_err-add_verdict : goal.returns-in_err-add_verdict
returns-in_err-add_verdict g c =
    let written = g.K.Sink.written in
    let faults = g.K.Sink.faults in
    let first = verdict_line c.args.answer.now.outcome ∷ [] in
    before_lines written faults c.args.sink.now c.add_verdict.new.sink c.args.gathered.now c.add_verdict.new.gathered c.from_residual.result first (flat_map tree_lines c.args.answer.now.trees) c.from_residual.ensures.0
    (first_stopped written faults c.args.sink.now c.add_verdict.new.sink c.args.gathered.now c.add_verdict.new.gathered c.in_err-add_verdict.field-0.0 c.from_residual.result _ c.from_residual.ensures.0 c.in_err-add_verdict.ensures)

pub returns : goal.returns
returns g c =
    let written = g.K.Sink.written in
    let faults = g.K.Sink.faults in
    let first = verdict_line c.args.answer.now.outcome ∷ [] in
    then_lines written faults c.args.sink.now c.add_verdict.new.sink c.add_trees.new.sink c.args.gathered.now c.add_verdict.new.gathered c.add_trees.new.gathered c.add_trees.result first (flat_map tree_lines c.args.answer.now.trees)
    (all_gathered written faults c.args.sink.now c.add_verdict.new.sink c.args.gathered.now c.add_verdict.new.gathered c.in_ok-add_verdict.field-0 _ c.in_ok-add_verdict.ensures)
    (rw c.as_slice.ensures at c.add_trees.ensures)
