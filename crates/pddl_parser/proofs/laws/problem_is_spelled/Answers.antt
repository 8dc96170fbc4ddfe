use Rattle.pddl_parser.proofs.Readable.{problem-spelled, problem-within}
use Rattle.pddl_parser.proofs.laws.problem_is_spelled.Goals as goal

pub returns : goal.returns
returns c = record { spelled = problem-spelled; within = problem-within }
