use Rattle.std.proofs.Common.{◌≡◌, ◌+◌, ◌*◌, ◌∙◌, List, [], ◌∷◌, ◌++◌, Vec, Global, length, take, length-append, ap, sym, subst, arith}
use Rattle.std.specs.Prelude.{IfSome}
use Rattle.std.proofs.lemmas.Bool.{eq-eqb, ne_eqb}
use Rattle.interpreter.specs.declared.run.Run.{Run}
use Rattle.interpreter.specs.Counts.{RaisedAtMost}
use Rattle.interpreter.proofs.MarkCounts.{raised_on}
use Rattle.waiting_programs.specs.Programs.{kept_at}
use Rattle.synthesis.specs.Inner.Keeping.{runs_waiting_at}
use Rattle.synthesis.proofs.KeptRuns.{has_run, is_run, all_seen, copy_more, copy_none}
use Rattle.synthesis.proofs.searcher.Searcher.copies_at.Goals.{then-line+in_ok-copy+in_ok-push, else-line}
use Rattle.synthesis.proofs.searcher.Searcher.copies_at.Goals as goal

pub run-run-requires : goal.run-run-requires
run-run-requires g c =
    has_run (g.M.Machine.semantics c.args.self.now.machine.now) (g.M.Machine.belongs c.args.self.now.machine.now) c.args.self.now.bounds.now.run (kept_at c.args.programs.now.kept c.args.id) c.loop-t.t c.requires (rw (sym c.instances-t-end.ensures.value) c.loop-t-test.true)

pub copy-requires : goal.copy-requires
copy-requires g c =
    is_run (g.M.Machine.semantics c.args.self.now.machine.now) (g.M.Machine.belongs c.args.self.now.machine.now) c.args.self.now.bounds.now.run (kept_at c.args.programs.now.kept c.args.id) c.loop-t.t c.run-run.result.now c.requires c.run-run.ensures

pub loop-t-preserved : goal.loop-t-preserved
loop-t-preserved g c =
    let m = g.M.Machine.semantics c.args.self.now.machine.now in
    let belongs = g.M.Machine.belongs c.args.self.now.machine.now in
    let limit = c.args.self.now.bounds.now.run in
    let here = kept_at c.args.programs.now.kept c.args.id in
    let before = c.loop-t.invariant in
    elim c.if-line.branch [
      | then-line+in_ok-copy+in_ok-push w ↦
          let runs_now = ap (λ (v : Vec (Run _) Global). v.items) w.copies-is in
          let pushed = runs_now ∙ w.in_ok-push.ensures.items ∙ ap (λ (run : Run _). c.loop-t.copies.items ++ run ∷ []) w.in_ok-copy.ensures.same in
          let more = ap (λ (runs : List (Run _)). length runs) pushed in
          let added = length-append c.loop-t.copies.items (c.run-run.result.now ∷ []) in
          record {
            same = copy_more m belongs limit here c.args.line c.loop-t.t c.run-run.result.now c.loop-t.copies.items c.if-line.copies.items c.run-run.ensures (eq-eqb _ _ (sym c.line.ensures ∙ w.if-line.true)) pushed before.same;
            acts = ap g.M.Machine.acts w.meter-is ∙ w.copy.ensures.acts ∙ before.acts;
            copies = subst (λ meter. RaisedAtMost (2 * length c.if-line.copies.items) (g.M.Machine.copies c.args.meter.now) (g.M.Machine.copies meter)) (sym w.meter-is)
                (raised_on (2 * length c.loop-t.copies.items) 2 (2 * length c.if-line.copies.items) _ _ _ (omega (arith, more, added)) before.copies w.copy.ensures.copies);
          }
      | else-line w ↦
          let runs_now = ap (λ (v : Vec (Run _) Global). v.items) w.copies-is in
          record {
            same = subst (λ runs. IfSome here (λ waiting. runs ≡ runs_waiting_at c.args.line (take (c.loop-t.t + 1) waiting.runs))) (sym runs_now)
                (copy_none m belongs limit here c.args.line c.loop-t.t c.run-run.result.now c.loop-t.copies.items c.run-run.ensures (ne_eqb _ _ (λ e. w.if-line.false (c.line.ensures ∙ e))) before.same);
            acts = ap g.M.Machine.acts w.meter-is ∙ before.acts;
            copies = rw (w.meter-is, runs_now) before.copies;
          }
    ]

pub returns-clause-same : goal.returns-clause-same
returns-clause-same g c =
    let m = g.M.Machine.semantics c.args.self.now.machine.now in
    all_seen m (g.M.Machine.belongs c.args.self.now.machine.now) c.args.self.now.bounds.now.run (kept_at c.args.programs.now.kept c.args.id) c.loop-t.t (λ waiting runs. c.loop-t.copies.items ≡ runs_waiting_at c.args.line runs) c.requires
    (rw (sym c.instances-t-end.ensures.value) c.loop-t-test.false) c.loop-t.invariant.same
