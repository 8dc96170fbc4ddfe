use Rattle.std.proofs.Common.{refl, ◌∙◌}
use Rattle.synthesis.specs.BestFirst.{best_first}
use Rattle.synthesis.proofs.SizesInTurn.{found_concludes}
use Rattle.synthesis.proofs.searcher.Searcher.ended.Goals as goal

pub returns-in_ok-from_slice-in-Solved-clause-concludes : goal.returns-in_ok-from_slice-in-Solved-clause-concludes
returns-in_ok-from_slice-in-Solved-clause-concludes g c =
    let bounds = c.args.self.now.bounds.now in
    let copied = c.from_vec-ends.ensures ∙ c.in_ok-from_slice-in-Solved.ensures.items ∙ c.as_slice.ensures.value in
    found_concludes (best_first (g.M.Machine.semantics c.args.self.now.machine.now) bounds) bounds.budget c.args.size c.args.ending c.in-Solved.field-0 c.filled-whole.result c.from_vec-ends.result c.answer.result _ c.answer.ensures c.in-Solved.is c.requires
    refl refl refl copied (rw c.ops.ensures.value at c.filled-whole.ensures)
