use Rattle.partial_program.proofs.Views.{defined_at}
use Rattle.partial_program.proofs.chain.Chain.+write_into.Given as goal

-- each parent has a line less that is defined
abbrev pub decreases-write_into : goal.decreases-write_into
decreases-write_into l = defined_at l.self.now.nodes l.id
