use Rattle.program_model.proofs.Runs.{at-extends}
use Rattle.program_model.proofs.laws.completions_run_alike.Goals as goal

pub returns : goal.returns
returns g c = λ m part program t j config extends here. at-extends m program part t j config extends here
