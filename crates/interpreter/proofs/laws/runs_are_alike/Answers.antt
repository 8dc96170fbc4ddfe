use Rattle.interpreter.proofs.Alike.{same_run}
use Rattle.interpreter.proofs.laws.runs_are_alike.Goals as goal

pub returns : goal.returns
returns g c = λ m program t s run other x y. same_run m program t s run other x y
