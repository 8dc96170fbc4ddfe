use Rattle.std.proofs.Common.{◌∙◌, List, Vec, Global, length, refl, sym, ap, subst, arith}
use Rattle.std.specs.Prelude.{IsSomeAnd}
use Rattle.std.specs.Vec.{with_items}
use Rattle.program_model.specs.Program.{with_line}
use Rattle.std.proofs.lemmas.Result.{on_ok_weaker}
use Rattle.synthesis.specs.declared.nodes.Held.TheVariants as holdings
use Rattle.synthesis.proofs.AddedNodes.{child_added, both_on_ok}
use Rattle.interpreter.specs.declared.run.Run.{Run}
use Rattle.run_turns.specs.Settling.{instances_of, AreRunsOf}
use Rattle.waiting_programs.specs.Programs.{kept_at, AreAmong}
use Rattle.synthesis.proofs.Keeping.{waiting_kept}
use Rattle.synthesis.proofs.ChildRuns.{on_ok, on_ok_too, written_over, judged_partial, judged_runs, judged_rising, judged_all, judged_known, same_size, few_moved, among_parents, moved_kept, becomes_child, acts_of_child, copies_of_the_child}
use Rattle.synthesis.proofs.Drafts.{runs_left, runs_taken}
use Rattle.synthesis.proofs.searcher.Searcher.add_child.Goals as goal

pub judge-judgement-requires-clause-partial : goal.judge-judgement-requires-clause-partial
judge-judgement-requires-clause-partial g c = rw (c.in_ok-begin_child.ensures.program) (judged_partial (g.M.Machine.semantics c.args.self.now.machine.now) (g.M.Machine.belongs c.args.self.now.machine.now) c.args.self.now.bounds.now.run c.args.nodes.now.programs.kept c.args.parent.now c.args.instr c.requires.parent c.requires.instr c.begin_child.new.draft.runs.items c.in_ok-begin_child.ensures.same)

pub judge-judgement-requires-clause-runs : goal.judge-judgement-requires-clause-runs
judge-judgement-requires-clause-runs g c = rw (c.in_ok-begin_child.ensures.program, c.as_mut_slice.ensures.value) (judged_runs (g.M.Machine.semantics c.args.self.now.machine.now) (g.M.Machine.belongs c.args.self.now.machine.now) c.args.self.now.bounds.now.run c.args.nodes.now.programs.kept c.args.parent.now c.args.instr c.requires.parent c.requires.instr c.begin_child.new.draft.runs.items c.in_ok-begin_child.ensures.same)

pub judge-judgement-requires-clause-rising : goal.judge-judgement-requires-clause-rising
judge-judgement-requires-clause-rising g c = rw (c.as_mut_slice.ensures.value) (judged_rising (g.M.Machine.semantics c.args.self.now.machine.now) (g.M.Machine.belongs c.args.self.now.machine.now) c.args.self.now.bounds.now.run c.args.nodes.now.programs.kept c.args.parent.now c.args.instr c.requires.parent c.requires.instr c.begin_child.new.draft.runs.items c.in_ok-begin_child.ensures.same)

pub judge-judgement-requires-clause-all : goal.judge-judgement-requires-clause-all
judge-judgement-requires-clause-all g c = judged_all (g.M.Machine.semantics c.args.self.now.machine.now) (g.M.Machine.belongs c.args.self.now.machine.now) c.args.self.now.bounds.now.run c.args.nodes.now.programs.kept c.args.parent.now c.args.instr c.requires.parent c.requires.instr c.begin_child.new.draft.runs.items c.in_ok-begin_child.ensures.same c.args.parent.now.standings.items refl

pub judge-judgement-requires-clause-known : goal.judge-judgement-requires-clause-known
judge-judgement-requires-clause-known g c = rw (c.in_ok-begin_child.ensures.program, c.as_mut_slice.ensures.value) (judged_known (g.M.Machine.semantics c.args.self.now.machine.now) (g.M.Machine.belongs c.args.self.now.machine.now) c.args.self.now.bounds.now.run c.args.nodes.now.programs.kept c.args.parent.now c.args.instr c.requires.parent c.requires.instr c.begin_child.new.draft.runs.items c.in_ok-begin_child.ensures.same c.args.parent.now.standings.items refl)

pub child-requires-clause-among : goal.child-requires-clause-among
child-requires-clause-among g c =
    let on_same = c.judge-judgement.ensures.instances ∙ ap instances_of c.as_mut_slice.ensures.value in
    let moved_are = rw (c.in_ok-begin_child.ensures.program) at c.judge-judgement.ensures.runs in
    let written = written_over c.begin_child.new.draft.runs.len c.begin_child.new.draft.runs.items c.judge-judgement.new.runs (sym c.as_mut_slice.ensures.len ∙ ap (λ (runs : List (Run _)). length runs) c.as_mut_slice.ensures.value) (same_size (g.M.Machine.semantics c.args.self.now.machine.now) (g.M.Machine.belongs c.args.self.now.machine.now) c.args.self.now.bounds.now.run c.args.nodes.now.programs.kept c.args.parent.now c.args.instr c.requires.parent c.requires.instr c.begin_child.new.draft.runs.items c.in_ok-begin_child.ensures.same c.judge-judgement.new.runs on_same moved_are) in
    let handed = ap (λ (runs : Vec (Run _) Global). runs.items) c.replace-runs.ensures.value ∙ written in
    subst (λ runs. IsSomeAnd (kept_at c.args.nodes.now.programs.kept c.args.parent.now.id) (λ waiting. AreAmong waiting.runs runs)) (sym handed) (among_parents (g.M.Machine.semantics c.args.self.now.machine.now) (g.M.Machine.belongs c.args.self.now.machine.now) c.args.self.now.bounds.now.run c.args.nodes.now.programs.kept c.args.parent.now c.args.instr c.requires.parent c.requires.instr c.begin_child.new.draft.runs.items c.in_ok-begin_child.ensures.same c.judge-judgement.new.runs on_same moved_are)

pub child-requires-clause-run_room : goal.child-requires-clause-run_room
child-requires-clause-run_room g c =
    let on_same = c.judge-judgement.ensures.instances ∙ ap instances_of c.as_mut_slice.ensures.value in
    let moved_are = rw (c.in_ok-begin_child.ensures.program) at c.judge-judgement.ensures.runs in
    let written = written_over c.begin_child.new.draft.runs.len c.begin_child.new.draft.runs.items c.judge-judgement.new.runs (sym c.as_mut_slice.ensures.len ∙ ap (λ (runs : List (Run _)). length runs) c.as_mut_slice.ensures.value) (same_size (g.M.Machine.semantics c.args.self.now.machine.now) (g.M.Machine.belongs c.args.self.now.machine.now) c.args.self.now.bounds.now.run c.args.nodes.now.programs.kept c.args.parent.now c.args.instr c.requires.parent c.requires.instr c.begin_child.new.draft.runs.items c.in_ok-begin_child.ensures.same c.judge-judgement.new.runs on_same moved_are) in
    let handed = ap (λ (runs : Vec (Run _) Global). runs.items) c.replace-runs.ensures.value ∙ written in
    omega (arith, ap (λ (runs : List (Run _)). length runs) handed, few_moved (g.M.Machine.semantics c.args.self.now.machine.now) (g.M.Machine.belongs c.args.self.now.machine.now) c.args.self.now.bounds.now.run c.args.nodes.now.programs.kept c.args.parent.now c.args.instr c.requires.parent c.requires.instr c.begin_child.new.draft.runs.items c.in_ok-begin_child.ensures.same c.judge-judgement.new.runs on_same moved_are, c.requires.run_room)

pub returns-in-Refused-clause-adds : goal.returns-in-Refused-clause-adds
returns-in-Refused-clause-adds g c =
    let m = g.M.Machine.semantics c.args.self.now.machine.now in
    let program = c.in_ok-begin_child.ensures.program in
    child_added m c.args.self.now.bounds.now c.args.nodes.now.held.items c.add_decided.new.self.held.items c.args.nodes.now.frontier.pairs c.add_decided.new.self.frontier.pairs c.args.newest.now c.see.new.self program c.in-Refused.is c.judge-judgement.ensures.judged c.in_ok-see.ensures.solved c.in_ok-see.ensures.limited c.add_decided.result
    (on_ok_weaker c.add_decided.result (λ pushed. record { held = holdings.Refused c.in-Refused.t c.in-Refused.cause; state = refl; pushed = pushed; pairs_now = ap (λ f. f.pairs) c.add_decided.ensures.frontier }) c.add_decided.ensures.held)

pub returns-in-Refused-clause-acts : goal.returns-in-Refused-clause-acts
returns-in-Refused-clause-acts g c = on_ok _ c.add_decided.result (λ reached steps. acts_of_child (g.M.Machine.semantics c.args.self.now.machine.now) c.args.self.now.bounds.now (g.M.Machine.belongs c.args.self.now.machine.now) c.args.nodes.now.programs.kept c.args.parent.now c.args.instr c.requires.parent c.requires.instr c.begin_child.new.draft.runs.items c.in_ok-begin_child.ensures.same reached steps _ _ _ c.in_ok-begin_child.ensures.acts (rw (c.in_ok-begin_child.ensures.program, c.as_mut_slice.ensures.value) at c.judge-judgement.ensures.acts))

pub returns-in-Refused-clause-copies : goal.returns-in-Refused-clause-copies
returns-in-Refused-clause-copies g c = on_ok _ c.add_decided.result (λ reached steps. copies_of_the_child (g.M.Machine.semantics c.args.self.now.machine.now) c.args.self.now.bounds.now (g.M.Machine.belongs c.args.self.now.machine.now) c.args.nodes.now.programs.kept c.args.parent.now c.args.instr c.requires.parent c.requires.instr c.begin_child.new.draft.runs.items c.in_ok-begin_child.ensures.same reached steps _ _ _ c.in_ok-begin_child.ensures.copies (rw (c.in_ok-begin_child.ensures.program, c.as_mut_slice.ensures.value) at c.judge-judgement.ensures.copies))

pub returns-in-AtLimit-clause-adds : goal.returns-in-AtLimit-clause-adds
returns-in-AtLimit-clause-adds g c =
    let m = g.M.Machine.semantics c.args.self.now.machine.now in
    let program = c.in_ok-begin_child.ensures.program in
    child_added m c.args.self.now.bounds.now c.args.nodes.now.held.items c.add_decided-in-AtLimit.new.self.held.items c.args.nodes.now.frontier.pairs c.add_decided-in-AtLimit.new.self.frontier.pairs c.args.newest.now c.see.new.self program c.in-AtLimit.is c.judge-judgement.ensures.judged c.in_ok-see.ensures.solved c.in_ok-see.ensures.limited c.add_decided-in-AtLimit.result
    (on_ok_weaker c.add_decided-in-AtLimit.result (λ pushed. record { held = holdings.AtLimit c.in-AtLimit.t; state = refl; pushed = pushed; pairs_now = ap (λ f. f.pairs) c.add_decided-in-AtLimit.ensures.frontier }) c.add_decided-in-AtLimit.ensures.held)

pub returns-in-AtLimit-clause-acts : goal.returns-in-AtLimit-clause-acts
returns-in-AtLimit-clause-acts g c = on_ok _ c.add_decided-in-AtLimit.result (λ reached steps. acts_of_child (g.M.Machine.semantics c.args.self.now.machine.now) c.args.self.now.bounds.now (g.M.Machine.belongs c.args.self.now.machine.now) c.args.nodes.now.programs.kept c.args.parent.now c.args.instr c.requires.parent c.requires.instr c.begin_child.new.draft.runs.items c.in_ok-begin_child.ensures.same reached steps _ _ _ c.in_ok-begin_child.ensures.acts (rw (c.in_ok-begin_child.ensures.program, c.as_mut_slice.ensures.value) at c.judge-judgement.ensures.acts))

pub returns-in-AtLimit-clause-copies : goal.returns-in-AtLimit-clause-copies
returns-in-AtLimit-clause-copies g c = on_ok _ c.add_decided-in-AtLimit.result (λ reached steps. copies_of_the_child (g.M.Machine.semantics c.args.self.now.machine.now) c.args.self.now.bounds.now (g.M.Machine.belongs c.args.self.now.machine.now) c.args.nodes.now.programs.kept c.args.parent.now c.args.instr c.requires.parent c.requires.instr c.begin_child.new.draft.runs.items c.in_ok-begin_child.ensures.same reached steps _ _ _ c.in_ok-begin_child.ensures.copies (rw (c.in_ok-begin_child.ensures.program, c.as_mut_slice.ensures.value) at c.judge-judgement.ensures.copies))

pub returns-in-Solved-clause-adds : goal.returns-in-Solved-clause-adds
returns-in-Solved-clause-adds g c =
    let m = g.M.Machine.semantics c.args.self.now.machine.now in
    let program = c.in_ok-begin_child.ensures.program in
    child_added m c.args.self.now.bounds.now c.args.nodes.now.held.items c.add_decided-in-Solved.new.self.held.items c.args.nodes.now.frontier.pairs c.add_decided-in-Solved.new.self.frontier.pairs c.args.newest.now c.see.new.self program c.in-Solved.is c.judge-judgement.ensures.judged c.in_ok-see.ensures.solved c.in_ok-see.ensures.limited c.add_decided-in-Solved.result
    (on_ok_weaker c.add_decided-in-Solved.result (λ pushed. record { held = holdings.Solved; state = refl; pushed = pushed; pairs_now = ap (λ f. f.pairs) c.add_decided-in-Solved.ensures.frontier }) c.add_decided-in-Solved.ensures.held)

pub returns-in-Solved-clause-acts : goal.returns-in-Solved-clause-acts
returns-in-Solved-clause-acts g c = on_ok _ c.add_decided-in-Solved.result (λ reached steps. acts_of_child (g.M.Machine.semantics c.args.self.now.machine.now) c.args.self.now.bounds.now (g.M.Machine.belongs c.args.self.now.machine.now) c.args.nodes.now.programs.kept c.args.parent.now c.args.instr c.requires.parent c.requires.instr c.begin_child.new.draft.runs.items c.in_ok-begin_child.ensures.same reached steps _ _ _ c.in_ok-begin_child.ensures.acts (rw (c.in_ok-begin_child.ensures.program, c.as_mut_slice.ensures.value) at c.judge-judgement.ensures.acts))

pub returns-in-Solved-clause-copies : goal.returns-in-Solved-clause-copies
returns-in-Solved-clause-copies g c = on_ok _ c.add_decided-in-Solved.result (λ reached steps. copies_of_the_child (g.M.Machine.semantics c.args.self.now.machine.now) c.args.self.now.bounds.now (g.M.Machine.belongs c.args.self.now.machine.now) c.args.nodes.now.programs.kept c.args.parent.now c.args.instr c.requires.parent c.requires.instr c.begin_child.new.draft.runs.items c.in_ok-begin_child.ensures.same reached steps _ _ _ c.in_ok-begin_child.ensures.copies (rw (c.in_ok-begin_child.ensures.program, c.as_mut_slice.ensures.value) at c.judge-judgement.ensures.copies))

pub returns-in_ok-id-in-Waiting-clause-adds : goal.returns-in_ok-id-in-Waiting-clause-adds
returns-in_ok-id-in-Waiting-clause-adds g c =
    let m = g.M.Machine.semantics c.args.self.now.machine.now in
    let program = c.in_ok-begin_child.ensures.program in
    child_added m c.args.self.now.bounds.now c.args.nodes.now.held.items c.add_waiting.new.self.held.items c.args.nodes.now.frontier.pairs c.add_waiting.new.self.frontier.pairs c.args.newest.now c.see.new.self program c.in-Waiting.is c.judge-judgement.ensures.judged c.in_ok-see.ensures.solved c.in_ok-see.ensures.limited c.add_waiting.result
    (both_on_ok c.add_waiting.result (λ pushed ranked. record { held = holdings.Waiting c.in-Waiting.line c.in_ok-id-in-Waiting.id; state = refl; pushed = pushed; pairs_now = ranked }) c.add_waiting.ensures.held c.add_waiting.ensures.pairs)

pub returns-in_ok-id-in-Waiting-clause-acts : goal.returns-in_ok-id-in-Waiting-clause-acts
returns-in_ok-id-in-Waiting-clause-acts g c = on_ok _ c.add_waiting.result (λ reached steps. acts_of_child (g.M.Machine.semantics c.args.self.now.machine.now) c.args.self.now.bounds.now (g.M.Machine.belongs c.args.self.now.machine.now) c.args.nodes.now.programs.kept c.args.parent.now c.args.instr c.requires.parent c.requires.instr c.begin_child.new.draft.runs.items c.in_ok-begin_child.ensures.same reached steps _ _ _ c.in_ok-begin_child.ensures.acts (rw (c.in_ok-begin_child.ensures.program, c.as_mut_slice.ensures.value) at c.judge-judgement.ensures.acts))

pub returns-in_ok-id-in-Waiting-clause-copies : goal.returns-in_ok-id-in-Waiting-clause-copies
returns-in_ok-id-in-Waiting-clause-copies g c = on_ok _ c.add_waiting.result (λ reached steps. copies_of_the_child (g.M.Machine.semantics c.args.self.now.machine.now) c.args.self.now.bounds.now (g.M.Machine.belongs c.args.self.now.machine.now) c.args.nodes.now.programs.kept c.args.parent.now c.args.instr c.requires.parent c.requires.instr c.begin_child.new.draft.runs.items c.in_ok-begin_child.ensures.same reached steps _ _ _ c.in_ok-begin_child.ensures.copies (rw (c.in_ok-begin_child.ensures.program, c.as_mut_slice.ensures.value) at c.judge-judgement.ensures.copies))

pub returns-in_ok-id-in-Waiting-clause-keeps : goal.returns-in_ok-id-in-Waiting-clause-keeps
returns-in_ok-id-in-Waiting-clause-keeps g c =
    let on_same = c.judge-judgement.ensures.instances ∙ ap instances_of c.as_mut_slice.ensures.value in
    let moved_are = rw (c.in_ok-begin_child.ensures.program) at c.judge-judgement.ensures.runs in
    let written = written_over c.begin_child.new.draft.runs.len c.begin_child.new.draft.runs.items c.judge-judgement.new.runs (sym c.as_mut_slice.ensures.len ∙ ap (λ (runs : List (Run _)). length runs) c.as_mut_slice.ensures.value) (same_size (g.M.Machine.semantics c.args.self.now.machine.now) (g.M.Machine.belongs c.args.self.now.machine.now) c.args.self.now.bounds.now.run c.args.nodes.now.programs.kept c.args.parent.now c.args.instr c.requires.parent c.requires.instr c.begin_child.new.draft.runs.items c.in_ok-begin_child.ensures.same c.judge-judgement.new.runs on_same moved_are) in
    let handed = ap (λ (runs : Vec (Run _) Global). runs.items) c.replace-runs.ensures.value ∙ written in
    let m = g.M.Machine.semantics c.args.self.now.machine.now in
    let belongs = g.M.Machine.belongs c.args.self.now.machine.now in
    let limit = c.args.self.now.bounds.now.run in
    let settled = rw (c.in-Waiting.is, c.in_ok-begin_child.ensures.program) at c.judge-judgement.ensures.settled in
    let kept_now = rw (handed) at c.in_ok-id-in-Waiting.ensures.kept in
    on_ok_too _ _ c.add_waiting.result
    (λ pushed. rw (c.add_waiting.ensures.programs) (waiting_kept m belongs limit c.args.parent.now.program c.args.parent.now.line c.args.instr c.in-Waiting.line c.in_ok-id-in-Waiting.id _ c.args.nodes.now.held.items c.add_waiting.new.self.held.items c.args.nodes.now.programs.kept c.child.new.self.kept
    (moved_kept (g.M.Machine.semantics c.args.self.now.machine.now) (g.M.Machine.belongs c.args.self.now.machine.now) c.args.self.now.bounds.now.run c.args.nodes.now.programs.kept c.args.parent.now c.args.instr c.requires.parent c.requires.instr c.begin_child.new.draft.runs.items c.in_ok-begin_child.ensures.same c.judge-judgement.new.runs on_same moved_are settled) pushed c.in_ok-id-in-Waiting.ensures.fresh
    (becomes_child (g.M.Machine.semantics c.args.self.now.machine.now) (g.M.Machine.belongs c.args.self.now.machine.now) c.args.self.now.bounds.now.run c.args.nodes.now.programs.kept c.args.parent.now c.args.instr c.requires.parent c.requires.instr c.begin_child.new.draft.runs.items c.in_ok-begin_child.ensures.same c.judge-judgement.new.runs on_same moved_are c.child.new.self.kept c.in_ok-id-in-Waiting.id kept_now) c.in_ok-id-in-Waiting.ensures.count))
    c.add_waiting.ensures.held

pub returns-in_ok-id-in-Waiting-clause-run_room : goal.returns-in_ok-id-in-Waiting-clause-run_room
returns-in_ok-id-in-Waiting-clause-run_room g c =
    let on_same = c.judge-judgement.ensures.instances ∙ ap instances_of c.as_mut_slice.ensures.value in
    let moved_are = rw (c.in_ok-begin_child.ensures.program) at c.judge-judgement.ensures.runs in
    let written = written_over c.begin_child.new.draft.runs.len c.begin_child.new.draft.runs.items c.judge-judgement.new.runs (sym c.as_mut_slice.ensures.len ∙ ap (λ (runs : List (Run _)). length runs) c.as_mut_slice.ensures.value) (same_size (g.M.Machine.semantics c.args.self.now.machine.now) (g.M.Machine.belongs c.args.self.now.machine.now) c.args.self.now.bounds.now.run c.args.nodes.now.programs.kept c.args.parent.now c.args.instr c.requires.parent c.requires.instr c.begin_child.new.draft.runs.items c.in_ok-begin_child.ensures.same c.judge-judgement.new.runs on_same moved_are) in
    let handed = ap (λ (runs : Vec (Run _) Global). runs.items) c.replace-runs.ensures.value ∙ written in
    on_ok _ c.add_waiting.result
    (omega (arith, ap (λ (runs : List (Run _)). length runs) handed, few_moved (g.M.Machine.semantics c.args.self.now.machine.now) (g.M.Machine.belongs c.args.self.now.machine.now) c.args.self.now.bounds.now.run c.args.nodes.now.programs.kept c.args.parent.now c.args.instr c.requires.parent c.requires.instr c.begin_child.new.draft.runs.items c.in_ok-begin_child.ensures.same c.judge-judgement.new.runs on_same moved_are, c.in_ok-id-in-Waiting.ensures.run_room, ap (λ programs. programs.run_room) c.add_waiting.ensures.programs))

pub returns-in-Refused-clause-draft : goal.returns-in-Refused-clause-draft
returns-in-Refused-clause-draft g c =
    let m = g.M.Machine.semantics c.args.self.now.machine.now in
    let belongs = g.M.Machine.belongs c.args.self.now.machine.now in
    let limit = c.args.self.now.bounds.now.run in
    let on_same = c.judge-judgement.ensures.instances ∙ ap instances_of c.as_mut_slice.ensures.value in
    let moved_are = rw (c.in_ok-begin_child.ensures.program) at c.judge-judgement.ensures.runs in
    let written = written_over c.begin_child.new.draft.runs.len c.begin_child.new.draft.runs.items c.judge-judgement.new.runs (sym c.as_mut_slice.ensures.len ∙ ap (λ (runs : List (Run _)). length runs) c.as_mut_slice.ensures.value) (same_size (g.M.Machine.semantics c.args.self.now.machine.now) (g.M.Machine.belongs c.args.self.now.machine.now) c.args.self.now.bounds.now.run c.args.nodes.now.programs.kept c.args.parent.now c.args.instr c.requires.parent c.requires.instr c.begin_child.new.draft.runs.items c.in_ok-begin_child.ensures.same c.judge-judgement.new.runs on_same moved_are) in
    on_ok _ c.add_decided.result (rw (c.add_decided.ensures.programs)
    (runs_left m belongs c.args.nodes.now.programs.kept c.args.parent.now (record { program = c.begin_child.new.draft.program; runs = with_items c.begin_child.new.draft.runs c.judge-judgement.new.runs }) c.args.instr c.in_ok-begin_child.ensures.program limit c.begin_child.new.draft.runs.items c.in_ok-begin_child.ensures.same (ap instances_of written ∙ on_same)
    (subst (AreRunsOf m belongs (with_line c.args.parent.now.program c.args.parent.now.line c.args.instr) limit) (sym written) moved_are)))

pub returns-in-AtLimit-clause-draft : goal.returns-in-AtLimit-clause-draft
returns-in-AtLimit-clause-draft g c =
    let m = g.M.Machine.semantics c.args.self.now.machine.now in
    let belongs = g.M.Machine.belongs c.args.self.now.machine.now in
    let limit = c.args.self.now.bounds.now.run in
    let on_same = c.judge-judgement.ensures.instances ∙ ap instances_of c.as_mut_slice.ensures.value in
    let moved_are = rw (c.in_ok-begin_child.ensures.program) at c.judge-judgement.ensures.runs in
    let written = written_over c.begin_child.new.draft.runs.len c.begin_child.new.draft.runs.items c.judge-judgement.new.runs (sym c.as_mut_slice.ensures.len ∙ ap (λ (runs : List (Run _)). length runs) c.as_mut_slice.ensures.value) (same_size (g.M.Machine.semantics c.args.self.now.machine.now) (g.M.Machine.belongs c.args.self.now.machine.now) c.args.self.now.bounds.now.run c.args.nodes.now.programs.kept c.args.parent.now c.args.instr c.requires.parent c.requires.instr c.begin_child.new.draft.runs.items c.in_ok-begin_child.ensures.same c.judge-judgement.new.runs on_same moved_are) in
    on_ok _ c.add_decided-in-AtLimit.result (rw (c.add_decided-in-AtLimit.ensures.programs)
    (runs_left m belongs c.args.nodes.now.programs.kept c.args.parent.now (record { program = c.begin_child.new.draft.program; runs = with_items c.begin_child.new.draft.runs c.judge-judgement.new.runs }) c.args.instr c.in_ok-begin_child.ensures.program limit c.begin_child.new.draft.runs.items c.in_ok-begin_child.ensures.same (ap instances_of written ∙ on_same)
    (subst (AreRunsOf m belongs (with_line c.args.parent.now.program c.args.parent.now.line c.args.instr) limit) (sym written) moved_are)))

pub returns-in-Solved-clause-draft : goal.returns-in-Solved-clause-draft
returns-in-Solved-clause-draft g c =
    let m = g.M.Machine.semantics c.args.self.now.machine.now in
    let belongs = g.M.Machine.belongs c.args.self.now.machine.now in
    let limit = c.args.self.now.bounds.now.run in
    let on_same = c.judge-judgement.ensures.instances ∙ ap instances_of c.as_mut_slice.ensures.value in
    let moved_are = rw (c.in_ok-begin_child.ensures.program) at c.judge-judgement.ensures.runs in
    let written = written_over c.begin_child.new.draft.runs.len c.begin_child.new.draft.runs.items c.judge-judgement.new.runs (sym c.as_mut_slice.ensures.len ∙ ap (λ (runs : List (Run _)). length runs) c.as_mut_slice.ensures.value) (same_size (g.M.Machine.semantics c.args.self.now.machine.now) (g.M.Machine.belongs c.args.self.now.machine.now) c.args.self.now.bounds.now.run c.args.nodes.now.programs.kept c.args.parent.now c.args.instr c.requires.parent c.requires.instr c.begin_child.new.draft.runs.items c.in_ok-begin_child.ensures.same c.judge-judgement.new.runs on_same moved_are) in
    on_ok _ c.add_decided-in-Solved.result (rw (c.add_decided-in-Solved.ensures.programs)
    (runs_left m belongs c.args.nodes.now.programs.kept c.args.parent.now (record { program = c.begin_child.new.draft.program; runs = with_items c.begin_child.new.draft.runs c.judge-judgement.new.runs }) c.args.instr c.in_ok-begin_child.ensures.program limit c.begin_child.new.draft.runs.items c.in_ok-begin_child.ensures.same (ap instances_of written ∙ on_same)
    (subst (AreRunsOf m belongs (with_line c.args.parent.now.program c.args.parent.now.line c.args.instr) limit) (sym written) moved_are)))

pub returns-in_ok-id-in-Waiting-clause-draft : goal.returns-in_ok-id-in-Waiting-clause-draft
returns-in_ok-id-in-Waiting-clause-draft g c =
    let m = g.M.Machine.semantics c.args.self.now.machine.now in
    let belongs = g.M.Machine.belongs c.args.self.now.machine.now in
    let none = ap (λ (runs : Vec (Run _) Global). runs.items) c.replace-runs.ensures.after ∙ c.new.ensures.items in
    on_ok _ c.add_waiting.result
    (runs_taken m belongs c.add_waiting.new.self.programs.kept c.args.parent.now (record { program = c.begin_child.new.draft.program; runs = c.replace-runs.new.dest }) c.args.instr c.in_ok-begin_child.ensures.program none)
