use Rattle.answer_lines.proofs.NoFeed.{line_free}
use Rattle.answer_lines.proofs.laws.no_line_feed.Goals as goal

pub returns : goal.returns
returns c = line_free
