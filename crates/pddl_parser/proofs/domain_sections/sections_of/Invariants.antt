use Rattle.std.proofs.Common.{◌≡◌, length}
use Rattle.pddl_parser.specs.Grammar.{no_domain_sections}
use Rattle.pddl_parser.specs.Inner.SectionReading.{domain_sections}
use Rattle.pddl_parser.proofs.domain_sections.sections_of.Given as goal

abbrev pub invariant-loop-alloc : goal.invariant-loop-alloc
invariant-loop-alloc l = domain_sections l.seen l.cursor ≡ domain_sections no_domain_sections l.fn.cursor

abbrev pub decreases-loop-alloc : goal.decreases-loop-alloc
decreases-loop-alloc l = length l.cursor
