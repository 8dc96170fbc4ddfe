use Rattle.std.proofs.Common.{arith, inl, inr}
use Rattle.answer_lines.proofs.Lengths.{short_or_operation}
use Rattle.answer_lines.proofs.laws.long_lines_are_operations.Goals as goal

pub returns : goal.returns
returns c = λ texts text is long. elim (short_or_operation texts text is) [
  | inl short ↦ absurd (omega (arith, short, long))
  | inr operation ↦ operation
]
