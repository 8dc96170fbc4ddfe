use Rattle.std.proofs.Common.{arith}
use Rattle.answer_lines.proofs.OneReading as readings
use Rattle.answer_lines.proofs.laws.one_mark.Goals as goal

pub returns : goal.returns
returns c = λ instances text one other few a b. readings.one_mark instances text one other (omega (arith, few)) a b
