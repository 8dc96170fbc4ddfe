use Rattle.std.proofs.Common.{◌≤◌, length, take, ap, subst, arith}
use Rattle.std.specs.Prelude.{sum_by}
use Rattle.std.proofs.lemmas.List.{take_all}
use Rattle.program_model.specs.Alphabet.{alphabet}
use Rattle.program_model.proofs.Places.{contains_at}
use Rattle.interpreter.specs.Counts.{RaisedAtMost}
use Rattle.synthesis.specs.BestFirst.{best_first}
use Rattle.synthesis.specs.FreshWork.{made_for, operations_of_child, copies_of_child}
use Rattle.synthesis.proofs.PlacesInLists.{take_seen}
use Rattle.synthesis.proofs.FreshRuns.{raised_none}
use Rattle.synthesis.proofs.FreshWork.{split_more}
use Rattle.synthesis.proofs.Keeping.{no_children_kept, children_kept_more}
use Rattle.synthesis.proofs.AddedNodes.{no_children, one_more, still_numbered}
use Rattle.synthesis.proofs.Drafts.{new_draft}
use Rattle.synthesis.proofs.searcher.Searcher.add_children.Goals as goal

pub loop-rank-init : goal.loop-rank-init
loop-rank-init g c =
    let m = g.M.Machine.semantics c.args.self.now.machine.now in
    let s = best_first m c.args.self.now.bounds.now in
    let q = c.args.parent.now.program in
    let line = c.args.parent.now.line in
    let room = c.in_ok-reserve.ensures in (
      rw (room.held, room.pairs) (no_children s q line c.args.nodes.now.held.items c.args.nodes.now.frontier.pairs c.none-newest.result c.none-newest.ensures.solved c.none-newest.ensures.limited),
      rw (room.held, room.kept) (no_children_kept m (g.M.Machine.belongs c.args.self.now.machine.now) c.args.self.now.bounds.now.run q line c.args.nodes.now.held.items c.args.nodes.now.programs.kept),
      λ reached steps. raised_none (g.M.Machine.acts c.args.meter.now),
      λ reached steps. raised_none (g.M.Machine.copies c.args.meter.now),
      omega (arith, room.frontier),
      omega (arith, room.room),
      (let runs = rw c.instances.ensures.value at room.run_room in omega (arith, runs)),
      new_draft m (g.M.Machine.belongs c.args.self.now.machine.now) c.reserve.new.self.programs.kept c.args.parent.now (record { program = c.copy.result; runs = c.new.result }) c.copy.ensures c.new.ensures.items,
    )

pub add_next-requires-clause-instr : goal.add_next-requires-clause-instr
add_next-requires-clause-instr g c =
    contains_at _ c.loop-rank.rank c.instr_at-instr.result (rw (c.ops-ops.ensures.value, c.lines-lines.ensures.count) at c.instr_at-instr.ensures)

pub add_next-requires-clause-numbers : goal.add_next-requires-clause-numbers
add_next-requires-clause-numbers g c =
    let s = best_first (g.M.Machine.semantics c.args.self.now.machine.now) c.args.self.now.bounds.now in
    still_numbered s c.args.parent.now.program c.args.parent.now.line (take c.loop-rank.rank (alphabet s.machine.ops (length c.args.parent.now.program) c.args.parent.now.line)) c.args.nodes.now.held.items c.loop-rank.nodes.held.items c.args.nodes.now.frontier.pairs c.loop-rank.nodes.frontier.pairs c.loop-rank.newest c.loop-rank.invariant.0 c.requires.numbers

pub loop-rank-preserved : goal.loop-rank-preserved
loop-rank-preserved g c =
    let m = g.M.Machine.semantics c.args.self.now.machine.now in
    let s = best_first m c.args.self.now.bounds.now in
    let q = c.args.parent.now.program in
    let line = c.args.parent.now.line in
    let instr = c.instr_at-instr.result in
    let before = take c.loop-rank.rank (alphabet m.ops (length q) line) in
    let so_far = c.loop-rank.invariant in
    let child = c.in_ok-add_next.ensures in
    let seen = take_seen (alphabet m.ops (length q) line) c.loop-rank.rank instr (rw (c.ops-ops.ensures.value, c.lines-lines.ensures.count) at c.instr_at-instr.ensures) in
    rw seen (
      one_more s q line before instr c.args.nodes.now.held.items c.loop-rank.nodes.held.items c.add_next.new.nodes.held.items c.args.nodes.now.frontier.pairs c.loop-rank.nodes.frontier.pairs c.add_next.new.nodes.frontier.pairs c.loop-rank.newest c.add_next.new.newest so_far.0 child.adds,
      children_kept_more m (g.M.Machine.belongs c.args.self.now.machine.now) c.args.self.now.bounds.now.run q line before instr c.args.nodes.now.held.items c.loop-rank.nodes.held.items c.add_next.new.nodes.held.items c.args.nodes.now.programs.kept c.loop-rank.nodes.programs.kept c.add_next.new.nodes.programs.kept so_far.1 child.keeps,
      λ reached steps. split_more s reached q line (operations_of_child s reached q line) before instr (g.M.Machine.acts c.args.meter.now) (g.M.Machine.acts c.loop-rank.meter) (g.M.Machine.acts c.add_next.new.meter) (so_far.2 reached steps) (child.acts reached steps),
      λ reached steps. split_more s reached q line (copies_of_child s reached q line) before instr (g.M.Machine.copies c.args.meter.now) (g.M.Machine.copies c.loop-rank.meter) (g.M.Machine.copies c.add_next.new.meter) (so_far.3 reached steps) (child.copies reached steps),
      omega (arith, so_far.4, child.spare),
      omega (arith, so_far.5, child.room),
      omega (arith, so_far.6, child.run_room),
      child.draft,
    )

pub returns-clause-acts : goal.returns-clause-acts
returns-clause-acts g c = λ reached steps.
    let m = g.M.Machine.semantics c.args.self.now.machine.now in
    let s = best_first m c.args.self.now.bounds.now in
    let q = c.args.parent.now.program in
    let line = c.args.parent.now.line in
    let count : length (alphabet c.ops-ops.result c.lines-lines.result line) ≤ c.loop-rank.rank = omega (arith, c.alphabet_len-children.ensures.length, c.loop-rank-test.false) in
    let all = take_all c.loop-rank.rank (alphabet m.ops (length q) line) (rw (c.ops-ops.ensures.value, c.lines-lines.ensures.count) at count) in
    subst (λ by. RaisedAtMost by (g.M.Machine.acts c.args.meter.now) (g.M.Machine.acts c.loop-rank.meter))
    (ap (λ instrs. sum_by (operations_of_child s reached q line) (made_for s reached q line instrs)) all)
    (c.loop-rank.invariant.2 reached steps)

pub returns-clause-copies : goal.returns-clause-copies
returns-clause-copies g c = λ reached steps.
    let m = g.M.Machine.semantics c.args.self.now.machine.now in
    let s = best_first m c.args.self.now.bounds.now in
    let q = c.args.parent.now.program in
    let line = c.args.parent.now.line in
    let count : length (alphabet c.ops-ops.result c.lines-lines.result line) ≤ c.loop-rank.rank = omega (arith, c.alphabet_len-children.ensures.length, c.loop-rank-test.false) in
    let all = take_all c.loop-rank.rank (alphabet m.ops (length q) line) (rw (c.ops-ops.ensures.value, c.lines-lines.ensures.count) at count) in
    subst (λ by. RaisedAtMost by (g.M.Machine.copies c.args.meter.now) (g.M.Machine.copies c.loop-rank.meter))
    (ap (λ instrs. sum_by (copies_of_child s reached q line) (made_for s reached q line instrs)) all)
    (c.loop-rank.invariant.3 reached steps)
