use Rattle.std.proofs.Common.{get_or, refl, arith}
use Rattle.flag_rules.specs.Line.{lines_of}
use Rattle.bfgp_outside.proofs.Puts.{lines_joined}
use Rattle.program_text.proofs.Gathering.{none_gathered, item_gathered, item_stopped, items_gathered}
use Rattle.answer_writer.specs.Document.{ends_lines}
use Rattle.answer_writer.proofs.Puts.{ends_line, length-ends_lines, ends_line_at}
use Rattle.answer_writer.proofs.writing.add_ends.Goals as goal

pub returns-in_err-add_line : goal.returns-in_err-add_line
returns-in_err-add_line g c =
    let ends = c.args.ends.now in
    let t = c.loop-t.t in
    let steps = get_or ends t 0 in
    let line = ends_line t steps in
    item_stopped g.K.Sink.written g.K.Sink.faults lines_of lines_joined (ends_lines 0 ends) t line line (omega (arith, length-ends_lines 0 ends)) (ends_line_at 0 t ends t steps 0 (omega arith) (omega arith) refl) c.args.sink.now c.loop-t.sink c.add_line.new.sink
    c.args.gathered.now c.loop-t.gathered c.add_line.new.gathered c.add_line.new.gathered c.in_err-add_line.field-0.0 c.from_residual.result c.from_residual.ensures.0 c.loop-t.invariant
    (rw c.ends_line.ensures at c.in_err-add_line.ensures)

pub loop-t-init : goal.loop-t-init
loop-t-init g c = none_gathered g.K.Sink.written g.K.Sink.faults c.args.sink.now c.args.gathered.now

pub loop-t-preserved : goal.loop-t-preserved
loop-t-preserved g c =
    let ends = c.args.ends.now in
    let t = c.loop-t.t in
    let steps = get_or ends t 0 in
    let line = ends_line t steps in
    item_gathered g.K.Sink.written g.K.Sink.faults lines_of lines_joined (ends_lines 0 ends) t line line (omega (arith, length-ends_lines 0 ends)) (ends_line_at 0 t ends t steps 0 (omega arith) (omega arith) refl) c.args.sink.now c.loop-t.sink c.add_line.new.sink
    c.args.gathered.now c.loop-t.gathered c.add_line.new.gathered c.in_ok-add_line.field-0 c.loop-t.invariant
    (rw c.ends_line.ensures at c.in_ok-add_line.ensures)

pub returns : goal.returns
returns g c =
    items_gathered g.K.Sink.written g.K.Sink.faults lines_of (ends_lines 0 c.args.ends.now) c.loop-t.t c.args.sink.now c.loop-t.sink c.args.gathered.now c.loop-t.gathered _ (omega (arith, length-ends_lines 0 c.args.ends.now)) c.loop-t.invariant
