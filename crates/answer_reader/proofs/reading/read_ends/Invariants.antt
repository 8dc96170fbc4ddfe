use Rattle.std.proofs.Common.{◌≡◌, ℕ, List, [], length}
use Rattle.program_model.specs.Program.{Program}
use Rattle.program_text.specs.Names.{AreNames}
use Rattle.answer_reader.specs.declared.heading.Heading.{Heading}
use Rattle.refutation_tree.specs.declared.evidence.Tree.{Tree}
use Rattle.answer_reader.specs.Inner.Following.{past_ends}
use Rattle.answer_reader.specs.Inner.ReadingOn.{StandsAt}
use Rattle.answer_reader.proofs.reading.read_ends.Given as goal

abbrev pub invariant-loop-t : goal.invariant-loop-t
invariant-loop-t l = record {
  count : length l.ends ≡ l.t;
  on : (texts : List (List ℕ)) (bytes : List ℕ) (heading : Heading) (trees : List Tree) (program : Program) → AreNames texts → heading.instances ≡ l.instances
      → StandsAt texts bytes l.fn.reader (past_ends heading trees program []) → StandsAt texts bytes l.reader (past_ends heading trees program l.ends);
}
