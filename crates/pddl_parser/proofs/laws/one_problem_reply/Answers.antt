use Rattle.pddl_parser.proofs.Wholes.{some-problem-reply, one-problem-reply}
use Rattle.pddl_parser.proofs.laws.one_problem_reply.Goals as goal

pub returns : goal.returns
returns c = record { some = some-problem-reply; one = one-problem-reply }
