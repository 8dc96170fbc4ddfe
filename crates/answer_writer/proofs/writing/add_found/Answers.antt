use Rattle.std.proofs.Common.{[], ◌∷◌, map, codes, sym, subst}
use Rattle.std.specs.Prelude.{Option}
use Rattle.flag_rules.specs.Line.{lines_of}
use Rattle.program_model.specs.Program.{Program}
use Rattle.program_text.specs.Gathered.{Gathers}
use Rattle.program_text.specs.Texts.{program_line}
use Rattle.program_text.proofs.Gathering.{all_gathered}
use Rattle.answer_writer.specs.Document.{program_lines}
use Rattle.answer_writer.proofs.Puts.{then_lines, first_stopped, before_lines}
use Rattle.answer_writer.proofs.writing.add_found.Goals as goal

pub returns-in_err-add_line-in-Some : goal.returns-in_err-add_line-in-Some
returns-in_err-add_line-in-Some g c =
    let written = g.K.Sink.written in
    let faults = g.K.Sink.faults in
    let names = c.args.names.now in
    subst (λ (o : Option Program). Gathers written faults c.args.sink.now c.add_line.new.sink c.args.gathered.now c.add_line.new.gathered c.from_residual.result (lines_of (program_lines names o))) (sym c.in-Some.is)
    (before_lines written faults c.args.sink.now c.add_line.new.sink c.args.gathered.now c.add_line.new.gathered c.from_residual.result (codes "program" ∷ []) (map (program_line names) c.in-Some.program) c.from_residual.ensures.0
    (first_stopped written faults c.args.sink.now c.add_line.new.sink c.args.gathered.now c.add_line.new.gathered c.in_err-add_line-in-Some.field-0.0 c.from_residual.result _ c.from_residual.ensures.0 (rw c.line_text.ensures at c.in_err-add_line-in-Some.ensures)))

pub returns-in_ok-add_line-in-Some : goal.returns-in_ok-add_line-in-Some
returns-in_ok-add_line-in-Some g c =
    let written = g.K.Sink.written in
    let faults = g.K.Sink.faults in
    let names = c.args.names.now in
    subst (λ (o : Option Program). Gathers written faults c.args.sink.now c.add_program.new.sink c.args.gathered.now c.add_program.new.gathered c.add_program.result (lines_of (program_lines names o))) (sym c.in-Some.is)
    (then_lines written faults c.args.sink.now c.add_line.new.sink c.add_program.new.sink c.args.gathered.now c.add_line.new.gathered c.add_program.new.gathered c.add_program.result (codes "program" ∷ []) (map (program_line names) c.in-Some.program)
    (all_gathered written faults c.args.sink.now c.add_line.new.sink c.args.gathered.now c.add_line.new.gathered c.in_ok-add_line-in-Some.field-0 _ (rw c.line_text.ensures at c.in_ok-add_line-in-Some.ensures)) c.add_program.ensures)
