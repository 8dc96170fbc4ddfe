use Rattle.bfgp_jobs.proofs.OneReply.{Due-unique}
use Rattle.bfgp_jobs.proofs.laws.at_most_one_reply_is_due.Goals as goal

pub returns : goal.returns
returns c = Due-unique
