use Rattle.std.proofs.Common.{List, length, ◌∙◌, sym, ap, inl, arith}
use Rattle.std.proofs.lemmas.List.{length-map}
use Rattle.program_model.specs.Program.{empty}
use Rattle.program_model.proofs.Programs.{partial_empty}
use Rattle.interpreter.specs.declared.run.Run.{Run}
use Rattle.run_turns.specs.Settling.{instances_of, AreRunsOf}
use Rattle.judgement.specs.Judging.{run_standing}
use Rattle.synthesis.proofs.SharedRuns.{many, all_rising, all_have}
use Rattle.synthesis.proofs.ChildRuns.{written_over}
use Rattle.synthesis.proofs.Starting.{root_starts, no_acts, no_copies}
use Rattle.synthesis.proofs.searcher.Searcher.start.Goals as goal

pub standings_of-standings-requires-clause-few : goal.standings_of-standings-requires-clause-few
standings_of-standings-requires-clause-few g c = rw (c.as_slice.ensures.value) c.in_ok-runs.ensures.few

pub standings_of-standings-requires-clause-runs : goal.standings_of-standings-requires-clause-runs
standings_of-standings-requires-clause-runs g c = (empty c.args.size, rw (c.as_slice.ensures.value) (c.in_ok-runs.ensures.runs (empty c.args.size)))

pub judge-judgement-requires-clause-partial : goal.judge-judgement-requires-clause-partial
judge-judgement-requires-clause-partial g c = rw (c.empty-program.ensures) (partial_empty (g.M.Machine.semantics c.args.self.now.machine.now).ops c.args.size c.requires.some)

pub judge-judgement-requires-clause-runs : goal.judge-judgement-requires-clause-runs
judge-judgement-requires-clause-runs g c = rw (c.as_mut_slice.ensures.value) (λ k d lt. (c.in_ok-runs.ensures.runs c.empty-program.result k d lt, let fresh = c.in_ok-runs.ensures.fresh k d lt in omega arith))

pub judge-judgement-requires-clause-rising : goal.judge-judgement-requires-clause-rising
judge-judgement-requires-clause-rising g c = rw (c.as_mut_slice.ensures.value) (all_rising (g.M.Machine.semantics c.args.self.now.machine.now).instances c.in_ok-runs.runs.items c.in_ok-runs.ensures.instances)

pub judge-judgement-requires-clause-all : goal.judge-judgement-requires-clause-all
judge-judgement-requires-clause-all g c =
    let m = g.M.Machine.semantics c.args.self.now.machine.now in
    ap (λ (ss : List _). length ss) c.standings_of-standings.ensures ∙ length-map c.as_slice.result.now (run_standing m c.args.size) ∙ ap (λ (runs : List (Run _)). length runs) c.as_slice.ensures.value ∙ many m.instances c.in_ok-runs.runs.items c.in_ok-runs.ensures.instances

pub judge-judgement-requires-clause-known : goal.judge-judgement-requires-clause-known
judge-judgement-requires-clause-known g c = λ t below. inl (rw (c.as_mut_slice.ensures.value) (all_have (g.M.Machine.semantics c.args.self.now.machine.now).instances t c.in_ok-runs.runs.items c.in_ok-runs.ensures.instances below))

pub returns : goal.returns
returns g c = λ budget from.
    let m = g.M.Machine.semantics c.args.self.now.machine.now in
    let belongs = g.M.Machine.belongs c.args.self.now.machine.now in
    let bounds = c.args.self.now.bounds.now in
    let fresh = c.in_ok-runs.runs.items in
    let moved = c.judge-judgement.new.runs in
    let judgement = c.judge-judgement.result in
    let is_judgement = rw (c.empty-program.ensures) at c.judge-judgement.ensures.judged in
    let same = sym (length-map moved (λ (run : Run _). run.instance)) ∙ ap (λ (ts : List _). length ts) (c.judge-judgement.ensures.instances ∙ ap instances_of c.as_mut_slice.ensures.value) ∙ length-map fresh (λ (run : Run _). run.instance) in
    let written = written_over c.in_ok-runs.runs.len fresh moved (sym c.as_mut_slice.ensures.len ∙ ap (λ (runs : List (Run _)). length runs) c.as_mut_slice.ensures.value) same in
    let on_each = c.judge-judgement.ensures.instances ∙ ap instances_of c.as_mut_slice.ensures.value ∙ c.in_ok-runs.ensures.instances in
    let are = rw (c.empty-program.ensures) at c.judge-judgement.ensures.runs in
    let settled = rw (c.empty-program.ensures) at c.judge-judgement.ensures.settled in
    let fresh_are : AreRunsOf m belongs (empty c.args.size) bounds.run fresh = λ k d lt. (c.in_ok-runs.ensures.runs (empty c.args.size) k d lt, let at_first = c.in_ok-runs.ensures.fresh k d lt in omega arith) in
    let acts = rw (c.empty-program.ensures, c.as_mut_slice.ensures.value) at c.judge-judgement.ensures.acts in
    let copies = rw (c.empty-program.ensures, c.as_mut_slice.ensures.value) at c.judge-judgement.ensures.copies in
    let solved = rw (c.empty-program.ensures) at c.in_ok-see.ensures.solved in
    let limited = c.in_ok-see.ensures.limited in
    let keeps = rw (c.in_ok-reserve.ensures.kept, c.new-nodes.ensures.programs) at c.in_ok-add_root.ensures.keeps in
    let here = rw written at c.in_ok-programs.ensures.made in
    root_starts m belongs bounds c.args.size c.requires.some judgement is_judgement c.add_root.new.self c.in_ok-add_root.ensures.adds c.none-newest.result c.see.new.self solved limited moved on_each are settled
    c.in_ok-programs.id c.in_ok-programs.programs.kept keeps here c.in_ok-programs.ensures.alone c.in_ok-programs.ensures.count _ _ budget from c.none-newest.ensures.solved c.none-newest.ensures.limited
    (no_acts m belongs bounds c.args.size c.requires.some fresh fresh_are _ _ acts) (no_copies m belongs bounds c.args.size c.requires.some fresh fresh_are _ _ copies)
