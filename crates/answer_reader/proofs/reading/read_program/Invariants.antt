use Rattle.std.proofs.Common.{◌≡◌, ℕ, List, length, take, drop}
use Rattle.program_model.specs.Program.{empty}
use Rattle.program_text.specs.Names.{AreNames}
use Rattle.answer_reader.specs.declared.heading.Heading.{Heading}
use Rattle.refutation_tree.specs.declared.evidence.Tree.{Tree}
use Rattle.answer_reader.specs.Inner.Following.{at_program, past_instrs}
use Rattle.answer_reader.specs.Inner.ReadingOn.{StandsAt}
use Rattle.answer_reader.proofs.reading.read_program.Given as goal

abbrev pub invariant-loop-line : goal.invariant-loop-line
invariant-loop-line l = record {
  size : length l.program ≡ l.size;
  rest : drop l.line l.program ≡ drop l.line (empty l.size);
  on : (bytes : List ℕ) (heading : Heading) (trees : List Tree) → AreNames l.names → StandsAt l.names bytes l.fn.reader (at_program heading trees l.size)
      → StandsAt l.names bytes l.reader (past_instrs heading trees l.size (take l.line l.program));
}
