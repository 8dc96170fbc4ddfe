use Rattle.pddl_printer.proofs.Printed.{printed_domain-reads}
use Rattle.pddl_printer.proofs.ReadBack.{domain-read_back}
use Rattle.pddl_printer.proofs.laws.printed_domain_reads.Goals as goal

pub returns : goal.returns
returns c = record { has = printed_domain-reads; read = domain-read_back }
