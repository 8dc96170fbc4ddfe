use Rattle.pddl_printer.proofs.Printed.{printed_problem-reads}
use Rattle.pddl_printer.proofs.ReadBack.{problem-read_back}
use Rattle.pddl_printer.proofs.laws.printed_problem_reads.Goals as goal

pub returns : goal.returns
returns c = record { has = printed_problem-reads; read = problem-read_back }
