use Rattle.std.proofs.Common.{List, length, sym, ◌∙◌, ap}
use Rattle.interpreter.specs.declared.run.Run.{Run}
use Rattle.synthesis.proofs.Drafts.{line_inside, parent_kept, on_instances}
use Rattle.synthesis.proofs.searcher.Searcher.begin_child.Goals as goal

pub define-requires : goal.define-requires
define-requires g c =
    let m = g.M.Machine.semantics c.args.self.now.machine.now in
    let belongs = g.M.Machine.belongs c.args.self.now.machine.now in
    let limit = c.args.self.now.bounds.now.run in
    line_inside m belongs limit c.args.programs.now.kept c.args.parent.now c.args.draft.now c.requires.parent c.requires.draft c.args.instr

pub copies_at-requires : goal.copies_at-requires
copies_at-requires g c =
    let m = g.M.Machine.semantics c.args.self.now.machine.now in
    let belongs = g.M.Machine.belongs c.args.self.now.machine.now in
    let limit = c.args.self.now.bounds.now.run in
    parent_kept m belongs limit c.args.programs.now.kept c.args.parent.now c.args.draft.now c.requires.parent c.requires.draft

pub refill-requires-clause-kept : goal.refill-requires-clause-kept
refill-requires-clause-kept g c =
    let m = g.M.Machine.semantics c.args.self.now.machine.now in
    let belongs = g.M.Machine.belongs c.args.self.now.machine.now in
    let limit = c.args.self.now.bounds.now.run in
    parent_kept m belongs limit c.args.programs.now.kept c.args.parent.now c.args.draft.now c.requires.parent c.requires.draft

pub refill-requires-clause-runs : goal.refill-requires-clause-runs
refill-requires-clause-runs g c = rw c.as_mut_slice.ensures.value c.requires.draft.runs

pub refill-requires-clause-instances : goal.refill-requires-clause-instances
refill-requires-clause-instances g c =
    let m = g.M.Machine.semantics c.args.self.now.machine.now in
    let belongs = g.M.Machine.belongs c.args.self.now.machine.now in
    let limit = c.args.self.now.bounds.now.run in
    rw c.as_mut_slice.ensures.value (on_instances m belongs limit c.args.programs.now.kept c.args.parent.now c.args.draft.now c.requires.parent c.requires.draft c.args.draft.now.runs.len c.is_empty.result (sym c.as_mut_slice.ensures.len ∙ ap (λ (runs : List (Run _)). length runs) c.as_mut_slice.ensures.value) c.is_empty.ensures c.if-is_empty.false)
