use Rattle.std.proofs.Common.{◌≡◌, ◌+◌, ◌≤◌, length}
use Rattle.pddl_forms.specs.Inner.Reading.{conjuncts}
use Rattle.pddl_forms.proofs.ItemSteps.{after_items}
use Rattle.pddl_forms.proofs.item_lists.open_items.Given as goal

abbrev pub invariant-loop-open : goal.invariant-loop-open
invariant-loop-open g l = (l.open + length l.cursor ≤ length l.fn.cursor + 1) × (after_items l.items (conjuncts (g.R.ItemReader.reading l.reader) l.open l.cursor) ≡ conjuncts (g.R.ItemReader.reading l.reader) 1 l.fn.cursor)

abbrev pub decreases-loop-open : goal.decreases-loop-open
decreases-loop-open g l = length l.cursor
