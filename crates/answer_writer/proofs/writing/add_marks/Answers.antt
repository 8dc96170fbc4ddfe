use Rattle.std.proofs.Common.{ℕ, List, map, get_or, refl, arith}
use Rattle.flag_rules.specs.Line.{lines_of}
use Rattle.bfgp_outside.proofs.Puts.{lines_map_joined}
use Rattle.program_text.proofs.Gathering.{none_gathered, item_gathered, item_stopped, items_gathered}
use Rattle.refutation_tree.specs.declared.evidence.Mark.{Mark}
use Rattle.refutation_tree.specs.declared.evidence.Mark.TheVariants as marks
use Rattle.answer_writer.specs.Document.{mark_line}
use Rattle.answer_writer.proofs.writing.add_marks.Goals as goal

abbrev text : List Mark → List ℕ
text ms = lines_of (map mark_line ms)

abbrev none : Mark
none = marks.Split 0 0

pub returns-in_err-add_line : goal.returns-in_err-add_line
returns-in_err-add_line g c =
    let mark = get_or c.args.marks.now c.loop-mark.mark-index none in
    item_stopped g.K.Sink.written g.K.Sink.faults text (lines_map_joined mark_line) c.args.marks.now c.loop-mark.mark-index mark none (omega arith) refl c.args.sink.now c.loop-mark.sink c.add_line.new.sink
    c.args.gathered.now c.loop-mark.gathered c.add_line.new.gathered c.add_line.new.gathered c.in_err-add_line.field-0.0 c.from_residual.result c.from_residual.ensures.0 c.loop-mark.invariant
    (rw c.mark_line.ensures at c.in_err-add_line.ensures)

pub loop-mark-init : goal.loop-mark-init
loop-mark-init g c = none_gathered g.K.Sink.written g.K.Sink.faults c.args.sink.now c.args.gathered.now

pub loop-mark-preserved : goal.loop-mark-preserved
loop-mark-preserved g c =
    let mark = get_or c.args.marks.now c.loop-mark.mark-index none in
    item_gathered g.K.Sink.written g.K.Sink.faults text (lines_map_joined mark_line) c.args.marks.now c.loop-mark.mark-index mark none (omega arith) refl c.args.sink.now c.loop-mark.sink c.add_line.new.sink
    c.args.gathered.now c.loop-mark.gathered c.add_line.new.gathered c.in_ok-add_line.field-0 c.loop-mark.invariant
    (rw c.mark_line.ensures at c.in_ok-add_line.ensures)

pub returns : goal.returns
returns g c =
    items_gathered g.K.Sink.written g.K.Sink.faults text c.args.marks.now c.loop-mark.mark-index c.args.sink.now c.loop-mark.sink c.args.gathered.now c.loop-mark.gathered _ (omega arith) c.loop-mark.invariant
