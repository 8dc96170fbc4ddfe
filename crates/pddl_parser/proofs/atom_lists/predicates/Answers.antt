use Rattle.pddl_parser.proofs.SectionReaders.{predicate-shrinks}
use Rattle.pddl_parser.proofs.atom_lists.predicates.Goals as goal

pub items-requires : goal.items-requires
items-requires c = predicate-shrinks
