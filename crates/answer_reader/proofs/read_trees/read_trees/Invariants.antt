use Rattle.std.proofs.Common.{◌≡◌, ℕ, List, [], length}
use Rattle.program_text.specs.Names.{AreNames}
use Rattle.answer_reader.specs.Inner.Following.{past_tree}
use Rattle.answer_reader.specs.Inner.ReadingOn.{StandsAt}
use Rattle.answer_reader.proofs.read_trees.read_trees.Given as goal

abbrev pub invariant-loop-count : goal.invariant-loop-count
invariant-loop-count l = record {
  sizes : length l.trees ≡ l.count;
  on : (texts : List (List ℕ)) (bytes : List ℕ) → AreNames texts → length texts ≡ l.ops → StandsAt texts bytes l.fn.reader (past_tree l.heading []) → StandsAt texts bytes l.reader (past_tree l.heading l.trees);
}
