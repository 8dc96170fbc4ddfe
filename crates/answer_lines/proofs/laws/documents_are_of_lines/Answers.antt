use Rattle.answer_lines.proofs.Documents.{are_lines}
use Rattle.answer_lines.proofs.laws.documents_are_of_lines.Goals as goal

pub returns : goal.returns
returns c = are_lines
