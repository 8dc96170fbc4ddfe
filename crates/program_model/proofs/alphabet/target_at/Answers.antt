use Rattle.program_model.proofs.Alphabets.{target_below, target_above}
use Rattle.std.proofs.Common.{arith}
use Rattle.program_model.proofs.alphabet.target_at.Goals as goal

pub returns-then-place-line : goal.returns-then-place-line
returns-then-place-line c = target_below c.args.lines c.args.line c.args.place (omega arith)

pub returns-else-place-line : goal.returns-else-place-line
returns-else-place-line c = target_above c.args.lines c.args.line c.args.place (omega arith) (omega arith)
