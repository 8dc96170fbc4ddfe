use Rattle.std.proofs.Common.{◌≡◌, length}
use Rattle.pddl_forms.specs.Inner.TypedReading.{words_of, typed_list}
use Rattle.pddl_forms.proofs.typed_lists.typed_list.Given as goal

abbrev pub invariant-loop-alloc : goal.invariant-loop-alloc
invariant-loop-alloc l = words_of l.kind l.done l.waiting l.cursor ≡ typed_list l.kind l.fn.cursor

abbrev pub decreases-loop-alloc : goal.decreases-loop-alloc
decreases-loop-alloc l = length l.cursor
