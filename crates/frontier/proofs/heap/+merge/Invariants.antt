use Rattle.std.proofs.Common.{◌+◌}
use Rattle.frontier.specs.Inner.Nodes.{rank_at}
use Rattle.frontier.proofs.heap.+merge.Given as goal

abbrev pub decreases-merge : goal.decreases-merge
decreases-merge g l = rank_at l.nodes.now.slots l.one + rank_at l.nodes.now.slots l.other
