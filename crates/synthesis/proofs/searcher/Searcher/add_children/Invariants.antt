use Rattle.std.proofs.Common.{ℕ, ◌+◌, ◌*◌, ◌≤◌, length, take}
use Rattle.std.specs.Prelude.{sum_by}
use Rattle.program_model.specs.Alphabet.{alphabet}
use Rattle.program_model.specs.Program.{Program}
use Rattle.interpreter.specs.Counts.{RaisedAtMost}
use Rattle.synthesis.specs.BestFirst.{best_first}
use Rattle.synthesis.specs.FreshWork.{AreStandingSteps, made_for, operations_of_child, copies_of_child}
use Rattle.synthesis.specs.Inner.Keeping.{IsDraft, KeepsChildren}
use Rattle.synthesis.specs.Inner.Splitting.{AddsChildren}
use Rattle.synthesis.proofs.searcher.Searcher.add_children.Given as goal

abbrev pub invariant-loop-rank : goal.invariant-loop-rank
invariant-loop-rank g l =
    let m = g.M.Machine.semantics l.self.machine.now in
    let belongs = g.M.Machine.belongs l.self.machine.now in
    let s = best_first m l.self.bounds.now in
    let limit = l.self.bounds.now.run in
    let q = l.parent.program in
    let line = l.parent.line in
    let instrs = take l.rank (alphabet m.ops (length q) line) in
    AddsChildren s q line instrs l.fn.nodes.held.items l.nodes.held.items l.fn.nodes.frontier.pairs l.nodes.frontier.pairs l.newest
    × KeepsChildren m belongs limit q line instrs l.fn.nodes.held.items l.nodes.held.items l.fn.nodes.programs.kept l.nodes.programs.kept
    × ((reached : Program → ℕ → ℕ) → AreStandingSteps m limit reached → RaisedAtMost (sum_by (operations_of_child s reached q line) (made_for s reached q line instrs)) (g.M.Machine.acts l.fn.meter) (g.M.Machine.acts l.meter))
    × ((reached : Program → ℕ → ℕ) → AreStandingSteps m limit reached → RaisedAtMost (sum_by (copies_of_child s reached q line) (made_for s reached q line instrs)) (g.M.Machine.copies l.fn.meter) (g.M.Machine.copies l.meter))
    × (l.children ≤ l.nodes.frontier.spare + l.rank)
    × (l.children ≤ l.nodes.programs.room + l.rank)
    × (l.children * m.instances ≤ l.nodes.programs.run_room + l.rank * m.instances)
    × IsDraft m belongs l.nodes.programs.kept l.parent l.draft
