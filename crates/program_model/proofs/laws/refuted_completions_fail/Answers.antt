use Rattle.program_model.proofs.Runs.{unmet_refutes, loops_refutes}
use Rattle.program_model.proofs.laws.refuted_completions_fail.Goals as goal

pub returns-clause-unmet : goal.returns-clause-unmet
returns-clause-unmet g c = unmet_refutes

pub returns-clause-loops : goal.returns-clause-loops
returns-clause-loops g c = loops_refutes
