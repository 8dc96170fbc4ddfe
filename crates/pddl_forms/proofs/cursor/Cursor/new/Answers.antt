use Rattle.pddl_lexer.proofs.Pieces.{AreWithin-from_InOrder}
use Rattle.pddl_forms.proofs.cursor.Cursor.new.Goals as goal

pub invariant_of-result : goal.invariant_of-result
invariant_of-result c = AreWithin-from_InOrder _ 0 _ c.requires
