use Rattle.instance_report.proofs.Solving.{solved_exactly}
use Rattle.instance_report.proofs.laws.reports_tell_solutions.Goals as goal

pub returns : goal.returns
returns g c = λ m program limit report whole h. rw h.all_solved (solved_exactly m m.ops program whole.is_partial limit h.runs h.are_runs)
