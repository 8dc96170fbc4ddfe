use Rattle.std.proofs.Common.{length, set, Some, None, sym, ◌∙◌, ap, subst, arith, length-set}
use Rattle.refutation_tree.specs.Accepted.{AreEndsFrom}
use Rattle.arrayvec.proofs.ArrayVecLemmas.{items-with_items}
use Rattle.judgement.proofs.SettledStandings.{key_so, short, judged_so, ends_so}
use Rattle.judgement.proofs.StandingsKnown.{is_run_here, one_looked_up, all_known}
use Rattle.judgement.proofs.judging.settled_judgement.Goals as goal

pub loop-run-init : goal.loop-run-init
loop-run-init g c = record {
  size = ap length c.copy_of-standings.ensures ∙ c.requires.all;
  known = rw (c.copy_of-standings.ensures) c.requires.known;
}

pub bounds-deref_mut-instance : goal.bounds-deref_mut-instance
bounds-deref_mut-instance g c =
    let run = is_run_here (g.M.Machine.semantics c.args.machine.now) (g.M.Machine.belongs c.args.machine.now) c.args.program.now c.args.bounds.now.run c.args.runs.now c.requires.runs c.loop-run.run-index c.loop-run-test.true c.run-item.result c.run-item.is in
    omega (arith, run.within, c.instance.ensures, ap length c.deref_mut.ensures.value, c.loop-run.invariant.size)

pub loop-run-preserved : goal.loop-run-preserved
loop-run-preserved g c =
    let m = g.M.Machine.semantics c.args.machine.now in
    let q = c.args.program.now in
    let limit = c.args.bounds.now.run in
    let looked_up = set c.deref_mut.result.now c.instance.result c.standing.result in
    let size = length-set c.deref_mut.result.now c.instance.result c.standing.result in
    let made = items-with_items c.loop-run.standings looked_up (size ∙ ap length c.deref_mut.ensures.value) in
    one_looked_up m (g.M.Machine.belongs c.args.machine.now) q limit c.args.runs.now c.requires.runs c.loop-run.run-index c.loop-run-test.true c.run-item.result c.run-item.is
    c.requires.partial c.requires.settled c.loop-run.standings.items _ c.instance.result c.lines.result c.standing.result c.instance.ensures c.lines.ensures.count c.standing.ensures
    (made ∙ ap (λ xs. set xs c.instance.result c.standing.result) c.deref_mut.ensures.value) c.loop-run.invariant

pub key-requires-clause-short : goal.key-requires-clause-short
key-requires-clause-short g c =
    let m = g.M.Machine.semantics c.args.machine.now in
    let q = c.args.program.now in
    let limit = c.args.bounds.now.run in
    let settled = all_known m q limit c.args.runs.now c.loop-run.run-index c.loop-run.standings.items c.loop-run-test.false c.loop-run.invariant in
    rw c.as_slice.ensures.value (short m q limit c.loop-run.standings.items _ c.requires.limit settled)

pub returns-in-Some : goal.returns-in-Some
returns-in-Some g c =
    let m = g.M.Machine.semantics c.args.machine.now in
    let q = c.args.program.now in
    let limit = c.args.bounds.now.run in
    let settled = all_known m q limit c.args.runs.now c.loop-run.run-index c.loop-run.standings.items c.loop-run-test.false c.loop-run.invariant in (
      judged_so m q limit c.loop-run.standings.items (Some c.in-Some.line) settled (sym c.in-Some.is ∙ c.greatest_waiting.ensures),
      key_so m q limit c.args.bounds.now.order c.loop-run.standings.items c.as_slice.result.now c.key.result settled c.as_slice.ensures.value c.key.ensures,
    )

pub returns-in-None : goal.returns-in-None
returns-in-None g c =
    let m = g.M.Machine.semantics c.args.machine.now in
    let q = c.args.program.now in
    let limit = c.args.bounds.now.run in
    let settled = all_known m q limit c.args.runs.now c.loop-run.run-index c.loop-run.standings.items c.loop-run-test.false c.loop-run.invariant in
    let none = sym c.in-None.is ∙ c.greatest_waiting.ensures in (
      judged_so m q limit c.loop-run.standings.items None settled none,
      subst (AreEndsFrom m q 0) (sym c.ends_of.ensures) (ends_so m q limit c.loop-run.standings.items settled none),
    )
