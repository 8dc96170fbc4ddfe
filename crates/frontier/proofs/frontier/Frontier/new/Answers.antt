use Rattle.frontier.proofs.Holding.{heap_empty}
use Rattle.frontier.proofs.frontier.Frontier.new.Goals as goal

pub invariant_of-result : goal.invariant_of-result
invariant_of-result g c = heap_empty _ c.new.result c.new.ensures.empty
