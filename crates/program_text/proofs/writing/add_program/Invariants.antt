use Rattle.std.proofs.Common.{map, take}
use Rattle.flag_rules.specs.Line.{lines_of}
use Rattle.program_text.specs.Texts.{program_line}
use Rattle.program_text.proofs.Gathering.{AllGathered}
use Rattle.program_text.proofs.writing.add_program.Given as goal

abbrev pub invariant-loop-place : goal.invariant-loop-place
invariant-loop-place g l = AllGathered g.K.Sink.written g.K.Sink.faults l.fn.sink l.sink l.fn.gathered l.gathered (lines_of (map (program_line l.names) (take l.place l.program)))
