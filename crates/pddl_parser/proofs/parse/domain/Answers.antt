use Rattle.pddl_forms.specs.Offending.{domain_keywords}
use Rattle.pddl_parser.specs.Grammar.{IsDomain}
use Rattle.pddl_parser.specs.Inner.SectionReading.{domain}
use Rattle.pddl_parser.proofs.DomainRules.{parses_domain, domain-offends}
use Rattle.pddl_parser.proofs.HasReply.{is-reply}
use Rattle.pddl_parser.proofs.parse.domain.Goals as goal

pub returns : goal.returns
returns c = record { reply = is-reply domain_keywords IsDomain domain parses_domain domain-offends c.args.bytes.now c.parse.result c.parse.ensures }
