use Rattle.std.proofs.Common.{◌≡◌, List, [], ◌∷◌, length, length-append, ap, arith}
use Rattle.interpreter.specs.declared.run.Run.{Run}
use Rattle.interpreter.specs.Runs.{IsRunOf}
use Rattle.synthesis.proofs.KeptRuns.{push_run, All-pushed}
use Rattle.synthesis.proofs.searcher.Searcher.fresh_runs.Goals as goal

pub loop-t-preserved : goal.loop-t-preserved
loop-t-preserved g c =
    let before = c.loop-t.invariant in
    let pushed = c.in_ok-push.ensures.items in
    record {
      instances = push_run c.loop-t.runs.items c.push.new.self.items c.in_ok-fresh.field-0 c.loop-t.t pushed c.in_ok-fresh.ensures.instance before.instances;
      count = omega (arith, before.count, ap (λ (runs : List (Run _)). length runs) pushed, length-append c.loop-t.runs.items (c.in_ok-fresh.field-0 ∷ []));
      fresh = All-pushed (λ run. run.marks.steps ≡ 0) c.loop-t.runs.items c.push.new.self.items c.in_ok-fresh.field-0 pushed before.fresh c.in_ok-fresh.ensures.steps;
      runs = λ program. All-pushed (IsRunOf (g.M.Machine.semantics c.args.self.now.machine.now) (g.M.Machine.belongs c.args.self.now.machine.now) program) c.loop-t.runs.items c.push.new.self.items c.in_ok-fresh.field-0 pushed (before.runs program) (c.in_ok-fresh.ensures.run program);
    }
