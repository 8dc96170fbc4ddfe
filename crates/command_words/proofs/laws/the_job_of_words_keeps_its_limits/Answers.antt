use Rattle.command_words.proofs.OneJob.{job_kept}
use Rattle.command_words.proofs.laws.the_job_of_words_keeps_its_limits.Goals as goal

pub returns : goal.returns
returns c = job_kept
