use Rattle.interpreter.proofs.Shared.{stands_too}
use Rattle.interpreter.proofs.laws.runs_are_shared.Goals as goal

pub returns : goal.returns
returns g c = λ m part program t s run extends stands. stands_too m part program extends t s run stands
