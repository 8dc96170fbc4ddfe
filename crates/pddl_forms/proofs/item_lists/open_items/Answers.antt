use Rattle.std.proofs.Common.{sym, ◌∙◌, arith}
use Rattle.std.proofs.lemmas.Result.{err_from_is_err_and}
use Rattle.pddl_forms.proofs.Conjunctions.{passed, start_shrinks, turn-close, turn-nothing, turn-and, turn-item, turn-done, turn-start-err, turn-item-err}
use Rattle.pddl_forms.proofs.item_lists.open_items.Goals as goal

pub loop-open-preserved-then-is_at : goal.loop-open-preserved-then-is_at
loop-open-preserved-then-is_at g c =
    let closes = sym c.is_at.ensures ∙ c.if-is_at.true in
    rw c.pass.ensures.left (omega (arith, c.loop-open.invariant.0, c.loop-open-test.true, passed _ closes), turn-close (g.R.ItemReader.reading c.args.reader.now) c.requires.stays c.loop-open.items _ _ _ c.loop-open.invariant.1 c.loop-open-test.true closes)

pub returns-in_err-start : goal.returns-in_err-start
returns-in_err-start g c =
    let p = err_from_is_err_and c.from_residual.result c.from_residual.ensures.1 in
    rw (p.1, p.2) (turn-start-err (g.R.ItemReader.reading c.args.reader.now) c.requires.stays c.loop-open.items _ _ _ _ _ c.loop-open.invariant.1 c.loop-open-test.true (sym c.is_at.ensures ∙ c.if-is_at.false) c.in_err-start.ensures.reads)

pub loop-open-smaller-in-Nothing : goal.loop-open-smaller-in-Nothing
loop-open-smaller-in-Nothing g c = start_shrinks _ _ _ c.in_ok-start.ensures.reads

pub loop-open-preserved-in-Nothing : goal.loop-open-preserved-in-Nothing
loop-open-preserved-in-Nothing g c = (
  omega (arith, c.loop-open.invariant.0, start_shrinks _ _ _ c.in_ok-start.ensures.reads),
  turn-nothing (g.R.ItemReader.reading c.args.reader.now) c.requires.stays c.loop-open.items _ _ _ _ c.loop-open.invariant.1 c.loop-open-test.true (sym c.is_at.ensures ∙ c.if-is_at.false) (rw c.in-Nothing.is at c.in_ok-start.ensures.reads),
)

pub overflow_add-open : goal.overflow_add-open
overflow_add-open g c = omega (arith, c.requires.few, c.loop-open.invariant.0, start_shrinks _ _ _ c.in_ok-start.ensures.reads)

pub loop-open-smaller-in-And : goal.loop-open-smaller-in-And
loop-open-smaller-in-And g c = start_shrinks _ _ _ c.in_ok-start.ensures.reads

pub loop-open-preserved-in-And : goal.loop-open-preserved-in-And
loop-open-preserved-in-And g c = (
  omega (arith, c.loop-open.invariant.0, start_shrinks _ _ _ c.in_ok-start.ensures.reads),
  turn-and (g.R.ItemReader.reading c.args.reader.now) c.requires.stays c.loop-open.items _ _ _ _ c.loop-open.invariant.1 c.loop-open-test.true (sym c.is_at.ensures ∙ c.if-is_at.false) (rw c.in-And.is at c.in_ok-start.ensures.reads),
)

pub returns-in_err-read-in-Other : goal.returns-in_err-read-in-Other
returns-in_err-read-in-Other g c =
    let p = err_from_is_err_and c.from_residual-in_err-read-in-Other.result c.from_residual-in_err-read-in-Other.ensures.1 in
    rw (p.1, p.2) (turn-item-err (g.R.ItemReader.reading c.args.reader.now) c.requires.stays c.loop-open.items _ _ _ _ _ _ c.loop-open.invariant.1 c.loop-open-test.true (sym c.is_at.ensures ∙ c.if-is_at.false) (rw c.in-Other.is at c.in_ok-start.ensures.reads) c.in_err-read-in-Other.ensures)

pub loop-open-smaller : goal.loop-open-smaller
loop-open-smaller g c = omega (arith, start_shrinks _ _ _ c.in_ok-start.ensures.reads, c.requires.stays _ _ _ c.in_ok-read-in-Other.ensures)

pub loop-open-preserved : goal.loop-open-preserved
loop-open-preserved g c =
    rw c.in_ok-push-in-Other.ensures.ok (
      omega (arith, c.loop-open.invariant.0, start_shrinks _ _ _ c.in_ok-start.ensures.reads, c.requires.stays _ _ _ c.in_ok-read-in-Other.ensures),
      turn-item (g.R.ItemReader.reading c.args.reader.now) c.requires.stays c.loop-open.items _ _ _ _ _ _ c.loop-open.invariant.1 c.loop-open-test.true (sym c.is_at.ensures ∙ c.if-is_at.false) (rw c.in-Other.is at c.in_ok-start.ensures.reads) c.in_ok-read-in-Other.ensures,
    )

pub returns : goal.returns
returns g c = turn-done (g.R.ItemReader.reading c.args.reader.now) c.requires.stays c.loop-open.items _ _ _ c.loop-open.invariant.1 (omega (arith, c.loop-open-test.false))
