use Rattle.std.proofs.Common.{◌++◌, drop, refl, sym, subst, arith}
use Rattle.program_model.specs.Verdict.{IsVerdictOver}
use Rattle.run_turns.specs.Settling.{HasInstance, HaveSettled}
use Rattle.run_turns.proofs.RunsGoneOn.{gone_none, paid_at_most}
use Rattle.run_turns.proofs.VerdictReached.{decided, settled_at_last, shared_runs, runs_before, same_size, gone_further, fewer_steps, fewer_runs, refuted_before, rising_before}
use Rattle.run_turns.proofs.settling.settle.Goals as goal

pub loop-place-init : goal.loop-place-init
loop-place-init g c = record {
  gone = gone_none (g.M.Machine.semantics c.args.machine.now) (g.M.Machine.belongs c.args.machine.now) c.args.partial.now c.args.limit c.args.runs.now _ _ c.requires.runs;
  within = omega arith;
  refusal = refl;
}

pub go_round-requires-clause-runs : goal.go_round-requires-clause-runs
go_round-requires-clause-runs g c = runs_before (g.M.Machine.semantics c.args.machine.now) (g.M.Machine.belongs c.args.machine.now) c.args.partial.now c.args.limit c.loop-place.count c.loop-place.runs c.loop-place.invariant.gone.runs

pub go_round-requires-clause-rising : goal.go_round-requires-clause-rising
go_round-requires-clause-rising g c = rising_before c.loop-place.count c.args.runs.now c.loop-place.runs c.loop-place.invariant.gone.instances c.requires.rising

pub loop-place-preserved : goal.loop-place-preserved
loop-place-preserved g c =
    let before = c.loop-place.invariant in
    let size = same_size (g.M.Machine.semantics c.args.machine.now) (g.M.Machine.belongs c.args.machine.now) c.args.partial.now c.args.limit c.loop-place.runs c.go_round.new.runs c.loop-place.count _ _ _ _ before.within before.gone.runs c.go_round.ensures.gone in
    record {
      gone = gone_further (g.M.Machine.semantics c.args.machine.now) (g.M.Machine.belongs c.args.machine.now) c.args.partial.now c.args.limit c.loop-place.runs c.go_round.new.runs c.loop-place.count _ _ _ _ before.within before.gone.runs c.go_round.ensures.gone c.args.runs.now _ _ before.gone;
      within = omega (arith, size, before.within);
      refusal = before.refusal;
    }

pub loop-place-smaller : goal.loop-place-smaller
loop-place-smaller g c =
    let before = c.loop-place.invariant in
    fewer_steps (g.M.Machine.semantics c.args.machine.now) (g.M.Machine.belongs c.args.machine.now) c.args.partial.now c.args.limit c.loop-place.runs c.go_round.new.runs c.loop-place.count _ _ _ _ before.within before.gone.runs c.go_round.ensures.gone c.in-Unfinished.ensures.round

pub loop-place-preserved-in-Refuted : goal.loop-place-preserved-in-Refuted
loop-place-preserved-in-Refuted g c =
    let before = c.loop-place.invariant in
    let size = same_size (g.M.Machine.semantics c.args.machine.now) (g.M.Machine.belongs c.args.machine.now) c.args.partial.now c.args.limit c.loop-place.runs c.go_round.new.runs c.loop-place.count _ _ _ _ before.within before.gone.runs c.go_round.ensures.gone in
    let refuted = refuted_before (g.M.Machine.semantics c.args.machine.now) (g.M.Machine.belongs c.args.machine.now) c.args.partial.now c.args.limit c.loop-place.runs c.go_round.new.runs c.loop-place.count _ _ _ _ before.within before.gone.runs c.go_round.ensures.gone c.args.runs.now c.in-Refuted.place c.in-Refuted.t c.in-Refuted.cause before.gone.instances c.in-Refuted.ensures.round in
    record {
      gone = gone_further (g.M.Machine.semantics c.args.machine.now) (g.M.Machine.belongs c.args.machine.now) c.args.partial.now c.args.limit c.loop-place.runs c.go_round.new.runs c.loop-place.count _ _ _ _ before.within before.gone.runs c.go_round.ensures.gone c.args.runs.now _ _ before.gone;
      within = omega (arith, size, before.within, refuted.0);
      refusal = refuted.1;
    }

pub loop-place-smaller-in-Refuted : goal.loop-place-smaller-in-Refuted
loop-place-smaller-in-Refuted g c =
    let before = c.loop-place.invariant in
    let refuted = refuted_before (g.M.Machine.semantics c.args.machine.now) (g.M.Machine.belongs c.args.machine.now) c.args.partial.now c.args.limit c.loop-place.runs c.go_round.new.runs c.loop-place.count _ _ _ _ before.within before.gone.runs c.go_round.ensures.gone c.args.runs.now c.in-Refuted.place c.in-Refuted.t c.in-Refuted.cause before.gone.instances c.in-Refuted.ensures.round in
    fewer_runs (g.M.Machine.semantics c.args.machine.now) (g.M.Machine.belongs c.args.machine.now) c.args.partial.now c.args.limit c.loop-place.runs c.go_round.new.runs c.loop-place.count _ _ _ _ before.within before.gone.runs c.go_round.ensures.gone c.in-Refuted.place refuted.0

pub returns-in-Finished-clause-verdict : goal.returns-in-Finished-clause-verdict
returns-in-Finished-clause-verdict g c =
    let m = g.M.Machine.semantics c.args.machine.now in
    let before = c.loop-place.invariant in
    subst (IsVerdictOver m c.args.partial.now c.args.limit (HasInstance c.args.runs.now)) (sym c.unwrap_or.ensures)
    (decided m (g.M.Machine.belongs c.args.machine.now) c.args.partial.now c.args.limit c.args.runs.now c.loop-place.runs c.loop-place.count c.loop-place.refusal c.in-Finished.verdict before.gone.instances c.requires.rising before.refusal c.in-Finished.ensures.round.0)

pub returns-in-Finished-clause-runs : goal.returns-in-Finished-clause-runs
returns-in-Finished-clause-runs g c =
    let before = c.loop-place.invariant in
    (gone_further (g.M.Machine.semantics c.args.machine.now) (g.M.Machine.belongs c.args.machine.now) c.args.partial.now c.args.limit c.loop-place.runs c.go_round.new.runs c.loop-place.count _ _ _ _ before.within before.gone.runs c.go_round.ensures.gone c.args.runs.now _ _ before.gone).runs

pub returns-in-Finished-clause-instances : goal.returns-in-Finished-clause-instances
returns-in-Finished-clause-instances g c =
    let before = c.loop-place.invariant in
    (gone_further (g.M.Machine.semantics c.args.machine.now) (g.M.Machine.belongs c.args.machine.now) c.args.partial.now c.args.limit c.loop-place.runs c.go_round.new.runs c.loop-place.count _ _ _ _ before.within before.gone.runs c.go_round.ensures.gone c.args.runs.now _ _ before.gone).instances

pub returns-in-Finished-clause-settled : goal.returns-in-Finished-clause-settled
returns-in-Finished-clause-settled g c =
    let m = g.M.Machine.semantics c.args.machine.now in
    let before = c.loop-place.invariant in
    subst (HaveSettled m c.args.partial.now c.args.limit (c.go_round.new.runs ++ drop c.loop-place.count c.loop-place.runs)) (sym c.unwrap_or.ensures)
    (settled_at_last m (g.M.Machine.belongs c.args.machine.now) c.args.partial.now c.args.limit c.args.runs.now c.loop-place.runs c.go_round.new.runs c.loop-place.count c.loop-place.refusal c.in-Finished.verdict before.gone.instances before.refusal c.in-Finished.ensures.round.1)

pub returns-in-Finished-clause-shared : goal.returns-in-Finished-clause-shared
returns-in-Finished-clause-shared g c = λ program extends.
    let before = c.loop-place.invariant in
    shared_runs (g.M.Machine.semantics c.args.machine.now) (g.M.Machine.belongs c.args.machine.now) c.args.partial.now c.args.limit (c.go_round.new.runs ++ drop c.loop-place.count c.loop-place.runs)
    (gone_further (g.M.Machine.semantics c.args.machine.now) (g.M.Machine.belongs c.args.machine.now) c.args.partial.now c.args.limit c.loop-place.runs c.go_round.new.runs c.loop-place.count _ _ _ _ before.within before.gone.runs c.go_round.ensures.gone c.args.runs.now _ _ before.gone).runs program extends

pub returns-in-Finished-clause-acts : goal.returns-in-Finished-clause-acts
returns-in-Finished-clause-acts g c = λ reached r.
    let before = c.loop-place.invariant in
    paid_at_most _ _ _ _ ((gone_further (g.M.Machine.semantics c.args.machine.now) (g.M.Machine.belongs c.args.machine.now) c.args.partial.now c.args.limit c.loop-place.runs c.go_round.new.runs c.loop-place.count _ _ _ _ before.within before.gone.runs c.go_round.ensures.gone c.args.runs.now _ _ before.gone).acts reached r)

pub returns-in-Finished-clause-copies : goal.returns-in-Finished-clause-copies
returns-in-Finished-clause-copies g c = λ reached r.
    let before = c.loop-place.invariant in
    paid_at_most _ _ _ _ ((gone_further (g.M.Machine.semantics c.args.machine.now) (g.M.Machine.belongs c.args.machine.now) c.args.partial.now c.args.limit c.loop-place.runs c.go_round.new.runs c.loop-place.count _ _ _ _ before.within before.gone.runs c.go_round.ensures.gone c.args.runs.now _ _ before.gone).copies reached r)
