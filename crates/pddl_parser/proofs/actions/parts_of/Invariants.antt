use Rattle.std.proofs.Common.{◌≡◌, length}
use Rattle.pddl_parser.specs.Grammar.{no_parts}
use Rattle.pddl_parser.specs.Inner.SectionReading.{parts}
use Rattle.pddl_parser.proofs.actions.parts_of.Given as goal

abbrev pub invariant-loop-alloc : goal.invariant-loop-alloc
invariant-loop-alloc l = parts l.seen l.cursor ≡ parts no_parts l.fn.cursor

abbrev pub decreases-loop-alloc : goal.decreases-loop-alloc
decreases-loop-alloc l = length l.cursor
