use Rattle.synthesis.specs.Answers.{RefutesSizes}
use Rattle.synthesis.specs.BestFirst.{best_first}
use Rattle.synthesis.specs.Inner.Working.{counts, HasWorkedFor}
use Rattle.synthesis.proofs.searcher.Searcher.search_sizes.Given as goal

abbrev pub invariant-loop-refuted : goal.invariant-loop-refuted
invariant-loop-refuted g l =
    let s = best_first (g.M.Machine.semantics l.self.machine.now) l.self.bounds.now in
    RefutesSizes s l.self.bounds.now.budget l.refuted l.stamp l.trees
    × HasWorkedFor s l.trees (counts (g.M.Machine.acts l.fn.meter) (g.M.Machine.copies l.fn.meter)) (counts (g.M.Machine.acts l.meter) (g.M.Machine.copies l.meter))
