use Rattle.answer_lines.proofs.Worded as worded
use Rattle.answer_lines.proofs.laws.one_ends.Goals as goal

pub returns : goal.returns
returns c = worded.one_ends
