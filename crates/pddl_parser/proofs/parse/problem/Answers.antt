use Rattle.pddl_forms.specs.Offending.{problem_keywords}
use Rattle.pddl_parser.specs.Grammar.{IsProblem}
use Rattle.pddl_parser.specs.Inner.SectionReading.{problem}
use Rattle.pddl_parser.proofs.ProblemRules.{parses_problem, problem-offends}
use Rattle.pddl_parser.proofs.HasReply.{is-reply}
use Rattle.pddl_parser.proofs.parse.problem.Goals as goal

pub returns : goal.returns
returns c = record { reply = is-reply problem_keywords IsProblem problem parses_problem problem-offends c.args.bytes.now c.parse.result c.parse.ensures }
