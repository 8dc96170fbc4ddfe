use Rattle.std.proofs.Common.{◌∷◌, [], ◌++◌, ◌∙◌, ap, arith, length, length-append}
use Rattle.std.proofs.lemmas.List.Elements.{All-push, All-same}
use Rattle.refutation_check.specs.declared.family.Family.{Family}
use Rattle.refutation_check.specs.Inner.Runs.{AreRuns}
use Rattle.refutation_check.proofs.family.new_families.Goals as goal

pub loop-preserved : goal.loop-preserved
loop-preserved g c =
    let m = g.M.Machine.semantics c.args.machine.now in
    let belongs = g.M.Machine.belongs c.args.machine.now in
    let families = c.loop.families.items in
    let family = c.in_ok-new.field-0 in
    let pushed = c.in_ok-push.ensures.items in
    let size = c.loop.invariant.count in
    let HasRuns = λ (family : Family g.row.M-Cfg.Denot). AreRuns belongs m.instances family.runs.items in
    record {
      count = ap length pushed ∙ omega (arith, size, length-append families (family ∷ []));
      runs = All-same HasRuns c.push.new.self.items (families ++ family ∷ []) pushed (All-push HasRuns families family c.loop.invariant.runs c.in_ok-new.ensures);
    }
