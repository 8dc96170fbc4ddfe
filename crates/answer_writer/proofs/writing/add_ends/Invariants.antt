use Rattle.std.proofs.Common.{take}
use Rattle.flag_rules.specs.Line.{lines_of}
use Rattle.program_text.proofs.Gathering.{AllGathered}
use Rattle.answer_writer.specs.Document.{ends_lines}
use Rattle.answer_writer.proofs.writing.add_ends.Given as goal

abbrev pub invariant-loop-t : goal.invariant-loop-t
invariant-loop-t g l = AllGathered g.K.Sink.written g.K.Sink.faults l.fn.sink l.sink l.fn.gathered l.gathered (lines_of (take l.t (ends_lines 0 l.ends)))
