use Rattle.std.proofs.Common.{◌≡◌, ◌<◌, ◌≤◌, arith}
use Rattle.document_check.proofs.Stages as at
use Rattle.document_check.proofs.progress.Progress.before_ends.Goals as goal

pub returns-then-t-instances : goal.returns-then-t-instances
returns-then-t-instances g c = λ m texts lines is all few.
    at.ends_next m texts lines c.args.self.now.walk c.args.self.now.program c.args.t is (omega (arith, all, c.if-t-instances.true))

pub returns-else-t-instances : goal.returns-else-t-instances
returns-else-t-instances g c = λ m texts lines is all few.
    at.last_next m texts lines c.args.self.now.walk c.args.self.now.program c.args.t few (λ less. omega (arith, less, all, c.if-t-instances.false))
