use Rattle.std.proofs.Common.{◌≡◌, map, length, sym}
use Rattle.program_model.specs.Program.{IsPartial}
use Rattle.waiting_programs.specs.Programs.{kept_at}
use Rattle.judgement.specs.Judging.{run_standing}
use Rattle.synthesis.proofs.KeptRuns.{has_run, is_run, all_seen, standing_more, same_lines, of_kept}
use Rattle.synthesis.proofs.searcher.Searcher.parent.Goals as goal

pub run-run-requires : goal.run-run-requires
run-run-requires g c =
    let m = g.M.Machine.semantics c.args.self.now.machine.now in
    has_run m (g.M.Machine.belongs c.args.self.now.machine.now) c.args.self.now.bounds.now.run (kept_at c.args.programs.now.kept c.args.best.now.id) c.loop-t.t c.requires.kept (rw (sym c.instances-t-end.ensures.value) c.loop-t-test.true)

pub standing-requires-clause-run : goal.standing-requires-clause-run
standing-requires-clause-run g c =
    is_run (g.M.Machine.semantics c.args.self.now.machine.now) (g.M.Machine.belongs c.args.self.now.machine.now) c.args.self.now.bounds.now.run (kept_at c.args.programs.now.kept c.args.best.now.id) c.loop-t.t c.run-run.result.now c.requires.kept c.run-run.ensures

pub loop-t-preserved : goal.loop-t-preserved
loop-t-preserved g c =
    let m = g.M.Machine.semantics c.args.self.now.machine.now in
    let here = kept_at c.args.programs.now.kept c.args.best.now.id in
    standing_more m (g.M.Machine.belongs c.args.self.now.machine.now) c.args.self.now.bounds.now.run here c.loop-t.t c.lines.result c.run-run.result.now c.loop-t.standings.items c.push.new.self.items c.standing.result c.run-run.ensures
    (same_lines here c.program-program.result c.lines.result c.lines.ensures.count c.program-program.ensures) c.standing.ensures c.push.ensures.items c.loop-t.invariant

pub returns-clause-standings : goal.returns-clause-standings
returns-clause-standings g c =
    let m = g.M.Machine.semantics c.args.self.now.machine.now in
    all_seen m (g.M.Machine.belongs c.args.self.now.machine.now) c.args.self.now.bounds.now.run (kept_at c.args.programs.now.kept c.args.best.now.id) c.loop-t.t (λ waiting runs. c.loop-t.standings.items ≡ map (run_standing m (length waiting.program)) runs) c.requires.kept
    (rw (sym c.instances-t-end.ensures.value) c.loop-t-test.false) c.loop-t.invariant

pub used_by-used-requires : goal.used_by-used-requires
used_by-used-requires g c =
    let m = g.M.Machine.semantics c.args.self.now.machine.now in
    of_kept m (g.M.Machine.belongs c.args.self.now.machine.now) c.args.self.now.bounds.now.run (IsPartial m.ops) (kept_at c.args.programs.now.kept c.args.best.now.id) c.program-program.result c.requires.kept c.requires.partial c.program-program.ensures
