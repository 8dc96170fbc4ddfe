use Rattle.std.proofs.Common.{ℕ, ◌<◌, ◌∙◌, sym, subst, arith, get_or, length, set, length-set}
use Rattle.refutation_check.specs.Inner.Runs.{AreRuns, StandsAt}
use Rattle.refutation_check.proofs.Instances.{runs_set, stand_more}
use Rattle.refutation_check.proofs.run.begin_all.Goals as goal

pub begin-requires-clause-value : goal.begin-requires-clause-value
begin-requires-clause-value g c =
    let belongs = g.M.Machine.belongs c.args.machine.now in
    let here = c.loop-t.invariant.runs.values c.loop-t.t c.index-runs-from.result (omega (arith, c.loop-t-test.true, c.instances-t-end.ensures.value)) in
    subst (λ (n : ℕ). belongs c.loop-t.t (get_or c.loop-t.runs n c.index-runs-from.result).here.value) (sym c.from.ensures) here

pub loop-t-preserved : goal.loop-t-preserved
loop-t-preserved g c =
    let m = g.M.Machine.semantics c.args.machine.now in
    let belongs = g.M.Machine.belongs c.args.machine.now in
    let t = c.loop-t.t in
    let runs = c.loop-t.runs in
    let run = c.begin.new.self in
    let count = c.loop-t.invariant.runs.count in
    let within : t < length runs = omega (arith, count, c.loop-t-test.true, c.instances-t-end.ensures.value) in
    record {
      runs = subst (λ (n : ℕ). AreRuns belongs m.instances (set runs n run)) (sym c.from.ensures) (runs_set belongs m.instances t runs run c.loop-t.invariant.runs c.begin.ensures.value);
      begun = λ q k d some less. subst (λ (n : ℕ). StandsAt m belongs q k (get_or (set runs n run) k d)) (sym c.from.ensures)
          (stand_more m belongs q runs t run within (λ k d below. c.loop-t.invariant.begun q k d some below) (c.begin.ensures.stands q some) k d less);
      count = length-set runs c.from.result run ∙ c.loop-t.invariant.count;
    }

pub returns-clause-stand : goal.returns-clause-stand
returns-clause-stand g c = λ q some k d less. c.loop-t.invariant.begun q k d some (omega (arith, less, c.loop-t-test.false, c.instances-t-end.ensures.value))
