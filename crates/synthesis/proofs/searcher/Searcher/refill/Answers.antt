use Rattle.std.proofs.Common.{◌+◌, ◌*◌, ◌<◌, ◌∙◌, length, set, refl, sym, subst, arith}
use Rattle.std.proofs.Math.Seq.{map-set_same}
use Rattle.std.proofs.lemmas.List.Elements.{All-set}
use Rattle.program_model.specs.Program.{Program}
use Rattle.interpreter.specs.declared.run.Run.{Run}
use Rattle.interpreter.specs.Runs.{IsRunOf}
use Rattle.interpreter.proofs.MarkCounts.{raised_on}
use Rattle.waiting_programs.specs.Programs.{kept_at}
use Rattle.synthesis.proofs.FreshRuns.{raised_none}
use Rattle.synthesis.proofs.KeptRuns.{has_run, is_run}
use Rattle.synthesis.proofs.Drafts.{no_ones, same_after, on_instance, one_more, all_ones}
use Rattle.synthesis.proofs.searcher.Searcher.refill.Goals as goal

pub loop-run-init : goal.loop-run-init
loop-run-init g c = record {
  ones = no_ones (kept_at c.args.programs.now.kept c.args.id) c.args.runs.now;
  instances = c.requires.instances;
  runs = c.requires.runs;
  acts = refl;
  copies = raised_none (g.M.Machine.copies c.args.meter.now);
}

pub run-from-requires : goal.run-from-requires
run-from-requires g c =
    let m = g.M.Machine.semantics c.args.self.now.machine.now in
    let belongs = g.M.Machine.belongs c.args.self.now.machine.now in
    let limit = c.args.self.now.bounds.now.run in
    let here = kept_at c.args.programs.now.kept c.args.id in
    let run = c.loop-run.invariant.runs c.loop-run.run-index c.run-item.result (omega arith) in
    has_run m belongs limit here c.instance.result c.requires.kept (subst (λ t. t < m.instances) (sym c.instance.ensures) run.1.within)

pub become_like-requires-clause-run : goal.become_like-requires-clause-run
become_like-requires-clause-run g c = c.loop-run.invariant.runs c.loop-run.run-index c.run-item.result (omega arith)

pub become_like-requires-clause-from : goal.become_like-requires-clause-from
become_like-requires-clause-from g c =
    let m = g.M.Machine.semantics c.args.self.now.machine.now in
    let belongs = g.M.Machine.belongs c.args.self.now.machine.now in
    let limit = c.args.self.now.bounds.now.run in
    let here = kept_at c.args.programs.now.kept c.args.id in
    is_run m belongs limit here c.instance.result c.run-from.result.now c.requires.kept c.run-from.ensures

pub become_like-requires-clause-instance : goal.become_like-requires-clause-instance
become_like-requires-clause-instance g c =
    let m = g.M.Machine.semantics c.args.self.now.machine.now in
    let belongs = g.M.Machine.belongs c.args.self.now.machine.now in
    let limit = c.args.self.now.bounds.now.run in
    let here = kept_at c.args.programs.now.kept c.args.id in
    sym (on_instance m belongs limit here c.instance.result c.run-from.result.now c.requires.kept c.run-from.ensures ∙ c.instance.ensures)

pub loop-run-preserved : goal.loop-run-preserved
loop-run-preserved g c =
    let m = g.M.Machine.semantics c.args.self.now.machine.now in
    let belongs = g.M.Machine.belongs c.args.self.now.machine.now in
    let limit = c.args.self.now.bounds.now.run in
    let here = kept_at c.args.programs.now.kept c.args.id in
    let before = c.loop-run.invariant in
    let place = c.loop-run.run-index in
    let from = c.run-from.result.now in
    let instance = on_instance m belongs limit here c.instance.result from c.requires.kept c.run-from.ensures in
    let inside : place < length c.loop-run.runs = omega arith in
    rw c.become_like.ensures.same (record {
      ones = one_more m belongs limit here c.loop-run.runs place c.instance.result from inside instance c.run-from.ensures before.ones;
      instances = same_after here c.args.line c.loop-run.runs (set c.loop-run.runs place from)
          (map-set_same (λ (run : Run _). run.instance) c.loop-run.runs place from c.run-item.result (instance ∙ c.instance.ensures)) before.instances;
      runs = All-set (λ (run : Run _). (program : Program) × IsRunOf m belongs program run) c.loop-run.runs place from
          (is_run m belongs limit here c.instance.result from c.requires.kept c.run-from.ensures) before.runs;
      acts = c.become_like.ensures.acts ∙ before.acts;
      copies = raised_on (2 * place) 2 (2 * (place + 1)) _ _ _ (omega arith) before.copies c.become_like.ensures.copies;
    })

pub returns-clause-same : goal.returns-clause-same
returns-clause-same g c =
    let m = g.M.Machine.semantics c.args.self.now.machine.now in
    let belongs = g.M.Machine.belongs c.args.self.now.machine.now in
    let limit = c.args.self.now.bounds.now.run in
    let here = kept_at c.args.programs.now.kept c.args.id in
    all_ones m belongs limit here c.args.line c.loop-run.runs c.loop-run.run-index
    c.requires.kept (omega arith) c.loop-run.invariant.ones c.loop-run.invariant.instances
