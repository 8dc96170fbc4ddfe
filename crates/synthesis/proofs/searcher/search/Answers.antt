use Rattle.synthesis.specs.BestFirst.{best_first}
use Rattle.synthesis.specs.Inner.Working.{counts}
use Rattle.synthesis.proofs.SizesInTurn.{acts_raised, copies_raised}
use Rattle.synthesis.proofs.searcher.search.Goals as goal

pub returns-clause-acts : goal.returns-clause-acts
returns-clause-acts g c =
    let bounds = c.args.bounds.now in
    acts_raised (best_first (g.M.Machine.semantics c.args.machine.now) bounds) bounds.budget
    (counts (g.M.Machine.acts c.args.meter.now) (g.M.Machine.copies c.args.meter.now)) (counts (g.M.Machine.acts c.search_sizes.new.meter) (g.M.Machine.copies c.search_sizes.new.meter))
    c.search_sizes.result c.search_sizes.ensures.worked

pub returns-clause-copies : goal.returns-clause-copies
returns-clause-copies g c =
    let bounds = c.args.bounds.now in
    copies_raised (best_first (g.M.Machine.semantics c.args.machine.now) bounds) bounds.budget
    (counts (g.M.Machine.acts c.args.meter.now) (g.M.Machine.copies c.args.meter.now)) (counts (g.M.Machine.acts c.search_sizes.new.meter) (g.M.Machine.copies c.search_sizes.new.meter))
    c.search_sizes.result c.search_sizes.ensures.worked
