use Rattle.pddl_parser.proofs.Wholes.{some-domain-reply, one-domain-reply}
use Rattle.pddl_parser.proofs.laws.one_domain_reply.Goals as goal

pub returns : goal.returns
returns c = record { some = some-domain-reply; one = one-domain-reply }
