use Rattle.family_gen.proofs.Reading.{domain_refused}
use Rattle.family_gen.proofs.laws.domains_are_read_without_a_refusal.Goals as goal

pub returns : goal.returns
returns c = domain_refused
