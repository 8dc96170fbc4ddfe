use Rattle.command_words.proofs.OneJob.{JobOf-unique}
use Rattle.command_words.proofs.laws.at_most_one_job.Goals as goal

pub returns : goal.returns
returns c = JobOf-unique
