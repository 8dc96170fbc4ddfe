use Rattle.std.proofs.Common.{◌≡◌, ℕ, List, [], ◌∷◌, ◌++◌, length}
use Rattle.std.specs.Prelude.{All, IfNone, option_to_list}
use Rattle.program_model.specs.Program.{empty, IsPartial}
use Rattle.program_text.specs.Names.{AreNames}
use Rattle.answer_reader.specs.declared.heading.Heading.{Heading}
use Rattle.refutation_tree.specs.declared.evidence.Tree.{Tree}
use Rattle.answer_reader.specs.Inner.Following.{past_marks}
use Rattle.answer_reader.specs.Inner.ReadingOn.{StandsAt}
use Rattle.answer_reader.proofs.read_trees.read_marks.Given as goal

abbrev pub invariant-loop-next : goal.invariant-loop-next
invariant-loop-next l = record {
  ops : l.pending.ops ≡ l.ops;
  partial : All (IsPartial l.ops) (option_to_list l.next ++ l.pending.programs);
  on : (texts : List (List ℕ)) (bytes : List ℕ) (heading : Heading) (trees : List Tree) → AreNames texts → length texts ≡ l.ops → heading.instances ≡ l.instances
      → StandsAt texts bytes l.fn.reader (past_marks heading trees [] (empty l.size ∷ [])) → StandsAt texts bytes l.reader (past_marks heading trees l.marks (option_to_list l.next ++ l.pending.programs));
  none : IfNone l.next (l.pending.programs ≡ []);
}

abbrev pub decreases-loop-next : goal.decreases-loop-next
decreases-loop-next l = length l.reader.rest
