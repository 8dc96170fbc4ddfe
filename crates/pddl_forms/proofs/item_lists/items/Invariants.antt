use Rattle.std.proofs.Common.{◌≡◌, length}
use Rattle.pddl_forms.specs.Inner.Reading.{many}
use Rattle.pddl_forms.proofs.ItemSteps.{after_items}
use Rattle.pddl_forms.proofs.item_lists.items.Given as goal

abbrev pub invariant-loop-alloc : goal.invariant-loop-alloc
invariant-loop-alloc g l = after_items l.items (many (g.R.ItemReader.reading l.reader) l.cursor) ≡ many (g.R.ItemReader.reading l.reader) l.fn.cursor

abbrev pub decreases-loop-alloc : goal.decreases-loop-alloc
decreases-loop-alloc g l = length l.cursor
