use Rattle.pddl_parser.proofs.SectionReaders.{requirement-shrinks}
use Rattle.pddl_parser.proofs.shared_parts.requirements.Goals as goal

pub items-requires : goal.items-requires
items-requires c = requirement-shrinks
