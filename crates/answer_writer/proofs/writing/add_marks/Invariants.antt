use Rattle.std.proofs.Common.{map, take}
use Rattle.flag_rules.specs.Line.{lines_of}
use Rattle.program_text.proofs.Gathering.{AllGathered}
use Rattle.answer_writer.specs.Document.{mark_line}
use Rattle.answer_writer.proofs.writing.add_marks.Given as goal

abbrev pub invariant-loop-mark : goal.invariant-loop-mark
invariant-loop-mark g l = AllGathered g.K.Sink.written g.K.Sink.faults l.fn.sink l.sink l.fn.gathered l.gathered (lines_of (map mark_line (take l.mark-index l.marks)))
