use Rattle.std.proofs.Common.{sym}
use Rattle.std.proofs.lemmas.List.{append-nil}
use Rattle.flag_rules.specs.Line.{line}
use Rattle.program_text.proofs.Gathering.{same_gathered}
use Rattle.summary_writer.proofs.writing.add_line.Goals as goal

pub returns : goal.returns
returns g c =
    same_gathered g.K.Sink.written g.K.Sink.faults c.args.sink.now c.add_line.new.sink c.args.gathered.now c.add_line.new.self c.add_line.result _ _ (sym (append-nil (line c.args.text.now.items))) (rw c.as_slice.ensures.value at c.add_line.ensures)
