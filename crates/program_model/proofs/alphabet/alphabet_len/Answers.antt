use Rattle.std.proofs.Common.{arith}
use Rattle.program_model.proofs.Alphabets.{length-alphabet}
use Rattle.program_model.proofs.alphabet.alphabet_len.Goals as goal

pub returns-else-line-lines-clause-length : goal.returns-else-line-lines-clause-length
returns-else-line-lines-clause-length c = omega (arith, length-alphabet c.args.ops c.args.lines c.args.line (omega arith))
