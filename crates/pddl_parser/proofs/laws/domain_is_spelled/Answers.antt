use Rattle.pddl_parser.proofs.Readable.{domain-spelled, domain-within}
use Rattle.pddl_parser.proofs.laws.domain_is_spelled.Goals as goal

pub returns : goal.returns
returns c = record { spelled = domain-spelled; within = domain-within }
