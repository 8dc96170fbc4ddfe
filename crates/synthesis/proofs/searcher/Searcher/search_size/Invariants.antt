use Rattle.std.proofs.Common.{◌-◌}
use Rattle.synthesis.specs.BestFirst.{best_first}
use Rattle.synthesis.specs.Inner.Nodes.{HasGrown}
use Rattle.synthesis.specs.Inner.Working.{counts}
use Rattle.synthesis.proofs.searcher.Searcher.search_size.Given as goal

abbrev pub invariant-loop-ending : goal.invariant-loop-ending
invariant-loop-ending g l = HasGrown (best_first (g.M.Machine.semantics l.self.machine.now) l.self.bounds.now) (g.M.Machine.belongs l.self.machine.now) l.self.bounds.now.budget l.size l.from l.stamp l.nodes
    (counts (g.M.Machine.acts l.fn.meter) (g.M.Machine.copies l.fn.meter)) (counts (g.M.Machine.acts l.meter) (g.M.Machine.copies l.meter)) l.newest

abbrev pub decreases-loop-ending : goal.decreases-loop-ending
decreases-loop-ending g l = l.self.bounds.now.budget - l.stamp
