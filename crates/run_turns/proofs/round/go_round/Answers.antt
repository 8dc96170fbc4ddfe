use Rattle.std.proofs.Common.{◌<◌, length, get_or, sym, ◌∙◌, ap, subst, arith}
use Rattle.run_turns.specs.Inner.Rounds.{IsRefutedAt}
use Rattle.run_turns.proofs.RunsGoneOn.{gone_none, gone_on, gone_one}
use Rattle.run_turns.proofs.VerdictSoFar.{so_far_none, so_far_more, so_far_finished, so_far_unfinished, refuted_here}
use Rattle.run_turns.proofs.round.go_round.Goals as goal

pub loop-place-init : goal.loop-place-init
loop-place-init g c =
    let m = g.M.Machine.semantics c.args.machine.now in
    record {
      gone = gone_none m (g.M.Machine.belongs c.args.machine.now) c.args.partial.now c.args.limit c.args.runs.now _ _ c.requires.runs;
      so_far = so_far_none m c.args.partial.now c.args.limit c.args.runs.now;
    }

pub advance-stand-requires-clause-run : goal.advance-stand-requires-clause-run
advance-stand-requires-clause-run g c = (c.loop-place.invariant.gone.runs c.loop-place.place c.index-runs-place.result (omega arith)).0

pub advance-stand-requires-clause-steps : goal.advance-stand-requires-clause-steps
advance-stand-requires-clause-steps g c = (c.loop-place.invariant.gone.runs c.loop-place.place c.index-runs-place.result (omega arith)).1

pub outcome-outcome-requires : goal.outcome-outcome-requires
outcome-outcome-requires g c = (c.args.partial.now, c.advance-stand.ensures.run)

pub returns-in-Some-clause-gone : goal.returns-in-Some-clause-gone
returns-in-Some-clause-gone g c =
    let m = g.M.Machine.semantics c.args.machine.now in
    let belongs = g.M.Machine.belongs c.args.machine.now in
    let q = c.args.partial.now in
    let before = c.loop-place.invariant.gone in
    let turn = c.advance-stand.ensures in
    let within : c.loop-place.place < length c.loop-place.runs = omega arith in
    gone_on m belongs q c.args.limit _ _ _ _ _ _ _ _ _ before
    (gone_one m belongs q c.args.limit c.requires.partial c.loop-place.runs c.loop-place.place (get_or c.loop-place.runs c.loop-place.place c.index-runs-place.result) c.advance-stand.new.self within (ap (get_or c.loop-place.runs c.loop-place.place) c.index-runs-place.is) turn.instance before.runs turn.run turn.later turn.in_limit _ _ _ _ turn.acts turn.copies)

pub returns-in-Some-clause-round : goal.returns-in-Some-clause-round
returns-in-Some-clause-round g c =
    let m = g.M.Machine.semantics c.args.machine.now in
    let belongs = g.M.Machine.belongs c.args.machine.now in
    let q = c.args.partial.now in
    let before = c.loop-place.invariant.gone in
    let turn = c.advance-stand.ensures in
    let within : c.loop-place.place < length c.loop-place.runs = omega arith in
    subst (λ t. IsRefutedAt m q c.args.limit c.args.runs.now c.loop-place.place t c.in-Some.cause) (sym c.instance.ensures)
    (refuted_here m q c.args.limit belongs c.requires.partial c.args.runs.now c.loop-place.runs c.loop-place.place (get_or c.loop-place.runs c.loop-place.place c.index-runs-place.result) c.advance-stand.new.self within (ap (get_or c.loop-place.runs c.loop-place.place) c.index-runs-place.is) turn.instance before.instances before.steps c.requires.rising turn.run turn.later c.advance-stand.result _ (omega arith) turn.told c.outcome-outcome.result c.outcome-outcome.ensures c.in-Some.cause (sym c.in-Some.is ∙ c.cause.ensures))

pub loop-place-preserved : goal.loop-place-preserved
loop-place-preserved g c =
    let m = g.M.Machine.semantics c.args.machine.now in
    let belongs = g.M.Machine.belongs c.args.machine.now in
    let q = c.args.partial.now in
    let before = c.loop-place.invariant.gone in
    let turn = c.advance-stand.ensures in
    let within : c.loop-place.place < length c.loop-place.runs = omega arith in
    record {
      gone = gone_on m belongs q c.args.limit _ _ _ _ _ _ _ _ _ before
          (gone_one m belongs q c.args.limit c.requires.partial c.loop-place.runs c.loop-place.place (get_or c.loop-place.runs c.loop-place.place c.index-runs-place.result) c.advance-stand.new.self within (ap (get_or c.loop-place.runs c.loop-place.place) c.index-runs-place.is) turn.instance before.runs turn.run turn.later turn.in_limit _ _ _ _ turn.acts turn.copies);
      so_far = so_far_more m q c.args.limit belongs c.requires.partial c.args.runs.now c.loop-place.runs c.loop-place.place (get_or c.loop-place.runs c.loop-place.place c.index-runs-place.result) c.advance-stand.new.self within (ap (get_or c.loop-place.runs c.loop-place.place) c.index-runs-place.is) turn.instance before.instances before.steps c.requires.rising turn.run turn.later c.advance-stand.result _ (omega arith) turn.told c.outcome-outcome.result c.outcome-outcome.ensures
          (sym c.cause.ensures ∙ c.in_default.is) c.loop-place.so_far c.joined-so_far.result c.loop-place.invariant.so_far c.joined-so_far.ensures;
    }

pub returns-in-Some-so_far-clause-gone : goal.returns-in-Some-so_far-clause-gone
returns-in-Some-so_far-clause-gone g c = c.loop-place.invariant.gone

pub returns-in-Some-so_far-clause-round : goal.returns-in-Some-so_far-clause-round
returns-in-Some-so_far-clause-round g c =
    so_far_finished (g.M.Machine.semantics c.args.machine.now) c.args.partial.now c.args.limit c.args.runs.now c.loop-place.runs c.loop-place.place c.loop-place.so_far c.in-Some-so_far.verdict c.loop-place.invariant.gone.instances (omega arith) c.in-Some-so_far.is c.loop-place.invariant.so_far

pub returns-in-None-clause-gone : goal.returns-in-None-clause-gone
returns-in-None-clause-gone g c = c.loop-place.invariant.gone

pub returns-in-None-clause-round : goal.returns-in-None-clause-round
returns-in-None-clause-round g c =
    so_far_unfinished (g.M.Machine.semantics c.args.machine.now) c.args.partial.now c.args.limit c.args.runs.now c.loop-place.runs c.loop-place.place c.loop-place.so_far c.in-None.is c.loop-place.invariant.so_far
