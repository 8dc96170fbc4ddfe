use Rattle.std.proofs.Common.{arith}
use Rattle.answer_lines.proofs.OneReading as readings
use Rattle.answer_lines.proofs.laws.one_verdict.Goals as goal

pub returns : goal.returns
returns c = λ lines instances text one other short few a b. readings.one_verdict lines instances text one other (omega (arith, short)) (omega (arith, few)) a b
