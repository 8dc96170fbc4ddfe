use Rattle.family_gen.proofs.Reading.{problem_refused}
use Rattle.family_gen.proofs.laws.problems_are_read_without_a_refusal.Goals as goal

pub returns : goal.returns
returns c = problem_refused
