use Rattle.std.proofs.Common.{◌≡◌, length}
use Rattle.pddl_parser.specs.Grammar.{no_problem_sections}
use Rattle.pddl_parser.specs.Inner.SectionReading.{problem_sections}
use Rattle.pddl_parser.proofs.problem_sections.sections_of.Given as goal

abbrev pub invariant-loop-alloc : goal.invariant-loop-alloc
invariant-loop-alloc l = problem_sections l.seen l.cursor ≡ problem_sections no_problem_sections l.fn.cursor

abbrev pub decreases-loop-alloc : goal.decreases-loop-alloc
decreases-loop-alloc l = length l.cursor
