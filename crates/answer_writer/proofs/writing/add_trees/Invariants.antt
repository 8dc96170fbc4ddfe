use Rattle.std.proofs.Common.{flat_map, take}
use Rattle.flag_rules.specs.Line.{lines_of}
use Rattle.program_text.proofs.Gathering.{AllGathered}
use Rattle.answer_writer.specs.Document.{tree_lines}
use Rattle.answer_writer.proofs.writing.add_trees.Given as goal

abbrev pub invariant-loop-tree : goal.invariant-loop-tree
invariant-loop-tree g l = AllGathered g.K.Sink.written g.K.Sink.faults l.fn.sink l.sink l.fn.gathered l.gathered (lines_of (flat_map tree_lines (take l.tree-index l.trees)))
