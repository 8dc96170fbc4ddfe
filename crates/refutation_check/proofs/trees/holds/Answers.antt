use Rattle.std.proofs.Common.{◌∙◌, sym}
use Rattle.std.proofs.lemmas.Bool.{false≢true}
use Rattle.refutation_check.specs.Walking.{pending}
use Rattle.refutation_check.proofs.Marks.{marks_stand, mark_taken, no_mark_left}
use Rattle.refutation_check.proofs.trees.holds.Goals as goal

pub returns-then-not-take-clause-holds : goal.returns-then-not-take-clause-holds
returns-then-not-take-clause-holds g c =
    let m = g.M.Machine.semantics c.args.machine.now in
    let taken = mark_taken m c.loop-mark.walk.covering c.take.new.self.covering (pending m c.loop-mark.walk) (pending m c.take.new.self) c.as_slice-mark-items.result.now c.loop-mark.mark-index _ c.take.result c.loop-mark-test.true c.loop-mark.invariant.on c.take.ensures.takes in
    let whole = marks_stand m c.args.covering c.args.tree.now in
    (λ h. absurd (false≢true h), λ holds. absurd (false≢true (sym c.if-not-take.true ∙ (taken.0 (whole.0 holds)).0)))

pub loop-mark-preserved : goal.loop-mark-preserved
loop-mark-preserved g c =
    let m = g.M.Machine.semantics c.args.machine.now in
    let taken = mark_taken m c.loop-mark.walk.covering c.take.new.self.covering (pending m c.loop-mark.walk) (pending m c.take.new.self) c.as_slice-mark-items.result.now c.loop-mark.mark-index _ c.take.result c.loop-mark-test.true c.loop-mark.invariant.on c.take.ensures.takes in
    record {
      walk = c.take.ensures.walk;
      on = (λ all. (taken.0 all).1, λ rest. taken.1 (c.if-not-take.false, rest));
      items = c.loop-mark.invariant.items;
    }

pub returns-clause-holds : goal.returns-clause-holds
returns-clause-holds g c =
    let m = g.M.Machine.semantics c.args.machine.now in
    let done = no_mark_left m c.loop-mark.walk.covering (pending m c.loop-mark.walk) c.as_slice-mark-items.result.now c.loop-mark.mark-index c.loop-mark-test.false c.loop-mark.invariant.on in
    let whole = marks_stand m c.args.covering c.args.tree.now in
    (λ h. whole.1 (done.1 (c.is_done.ensures.0 h)), λ holds. c.is_done.ensures.1 (done.0 (whole.0 holds)))
