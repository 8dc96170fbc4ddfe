use Rattle.std.proofs.Common.{sym, ◌∙◌}
use Rattle.std.proofs.lemmas.Bool.{true≢false}
use Rattle.synthesis.specs.BestFirst.{best_first}
use Rattle.synthesis.specs.Inner.Working.{counts}
use Rattle.synthesis.proofs.WaitingPairs.{numbers_left}
use Rattle.synthesis.proofs.SizesOfNodes.{none_waits, pairs_numbered, pairs_waiting}
use Rattle.synthesis.proofs.Splits.{same_length}
use Rattle.synthesis.proofs.KeptSplits.{best_kept, best_partial, still_kept, parent_program, is_parent, split_grows}
use Rattle.synthesis.proofs.searcher.Searcher.split_best.Goals as goal

pub take_best-best-requires-clause-some : goal.take_best-best-requires-clause-some
take_best-best-requires-clause-some g c = λ none.
    let s = best_first (g.M.Machine.semantics c.args.self.now.machine.now) c.args.self.now.bounds.now in
    let can = c.requires.3 in
    true≢false (sym can.stays.2 ∙ none_waits s c.args.self.now.bounds.now.budget c.requires.1 c.requires.0 can.all.are_held.some c.args.stamp c.args.nodes.now.held.items c.args.nodes.now.frontier.pairs can.nodes can.all.are_held none)

pub take_best-best-requires-clause-waiting : goal.take_best-best-requires-clause-waiting
take_best-best-requires-clause-waiting g c =
    let s = best_first (g.M.Machine.semantics c.args.self.now.machine.now) c.args.self.now.bounds.now in
    let can = c.requires.3 in
    pairs_waiting s c.args.self.now.bounds.now.budget c.requires.1 c.requires.0 can.all.are_held.some c.args.stamp c.args.nodes.now.held.items c.args.nodes.now.frontier.pairs can.nodes can.all.are_held

pub parent-parent-requires-clause-kept : goal.parent-parent-requires-clause-kept
parent-parent-requires-clause-kept g c = rw c.take_best-best.ensures.programs (best_kept c.requires.3 c.take_best-best.ensures.best)

pub parent-parent-requires-clause-partial : goal.parent-parent-requires-clause-partial
parent-parent-requires-clause-partial g c = rw c.take_best-best.ensures.programs (best_partial c.requires.3 c.take_best-best.ensures.best)

pub add_children-requires-clause-parent : goal.add_children-requires-clause-parent
add_children-requires-clause-parent g c =
    let took = c.take_best-best.ensures in
    let parent = c.parent-parent.ensures in
    rw took.programs (is_parent c.requires.3 took.best c.parent-parent.result (rw took.programs at parent.program) parent.id parent.line parent.used (rw took.programs at parent.standings))

pub add_children-requires-clause-numbers : goal.add_children-requires-clause-numbers
add_children-requires-clause-numbers g c =
    let s = best_first (g.M.Machine.semantics c.args.self.now.machine.now) c.args.self.now.bounds.now in
    let can = c.requires.3 in
    let took = c.take_best-best.ensures.best in
    numbers_left c.args.nodes.now.held.items c.take_best-best.new.self.held.items c.args.nodes.now.frontier.pairs c.take_best-best.new.self.frontier.pairs took.pair took.taken (same_length can.all.are_held took)
    (pairs_numbered s c.args.self.now.bounds.now.budget c.requires.1 c.requires.0 can.all.are_held.some c.args.stamp c.args.nodes.now.held.items c.args.nodes.now.frontier.pairs can.nodes can.all.are_held)

pub release-requires : goal.release-requires
release-requires g c =
    let stay = c.in_ok-newest.ensures.keeps.stay in
    still_kept c.requires.3 c.take_best-best.ensures.best c.add_children.new.nodes.programs.kept (rw c.take_best-best.ensures.programs at stay)

pub returns : goal.returns
returns g c = λ from size before can.
    let took = c.take_best-best.ensures in
    let parent = c.parent-parent.ensures in
    let program = parent_program can took.best c.parent-parent.result (rw took.programs at parent.program) in
    let made = c.in_ok-newest.ensures in
    split_grows can took.best (record { held = c.add_children.new.nodes.held; frontier = c.add_children.new.nodes.frontier; compared = c.add_children.new.nodes.compared; programs = c.release.new.self }) made.few (rw (program, parent.line) at made.adds) c.add_children.new.nodes.programs.kept (counts (g.M.Machine.acts c.add_children.new.meter) (g.M.Machine.copies c.add_children.new.meter))
    (rw (program, parent.line, took.programs) at made.keeps) c.release.ensures.kept c.release.ensures.count
    (rw (program, parent.line) at made.acts)
    (rw (program, parent.line) at made.copies)
