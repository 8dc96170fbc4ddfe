use Rattle.std.proofs.Common.{[], ◌∷◌, ◌++◌, map}
use Rattle.std.specs.Prelude.{codes}
use Rattle.flag_rules.specs.Line.{then_number}
use Rattle.program_text.proofs.Gathering.{all_gathered}
use Rattle.answer_writer.specs.Document.{mark_line}
use Rattle.answer_writer.proofs.Puts.{then_lines, first_stopped, before_lines}
use Rattle.answer_writer.proofs.writing.add_tree.Goals as goal

pub returns-in_err-add_line : goal.returns-in_err-add_line
returns-in_err-add_line g c =
    let written = g.K.Sink.written in
    let faults = g.K.Sink.faults in
    let first = (codes "tree" ++ then_number c.args.tree.now.size) ∷ [] in
    before_lines written faults c.args.sink.now c.add_line.new.sink c.args.gathered.now c.add_line.new.gathered c.from_residual.result first (map mark_line c.args.tree.now.marks) c.from_residual.ensures.0
    (first_stopped written faults c.args.sink.now c.add_line.new.sink c.args.gathered.now c.add_line.new.gathered c.in_err-add_line.field-0.0 c.from_residual.result _ c.from_residual.ensures.0 (rw c.number_line.ensures at c.in_err-add_line.ensures))

pub returns : goal.returns
returns g c =
    let written = g.K.Sink.written in
    let faults = g.K.Sink.faults in
    let first = (codes "tree" ++ then_number c.args.tree.now.size) ∷ [] in
    then_lines written faults c.args.sink.now c.add_line.new.sink c.add_marks.new.sink c.args.gathered.now c.add_line.new.gathered c.add_marks.new.gathered c.add_marks.result first (map mark_line c.args.tree.now.marks)
    (all_gathered written faults c.args.sink.now c.add_line.new.sink c.args.gathered.now c.add_line.new.gathered c.in_ok-add_line.field-0 _ (rw c.number_line.ensures at c.in_ok-add_line.ensures))
    (rw c.as_slice.ensures at c.add_marks.ensures)
