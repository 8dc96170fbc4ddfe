use Rattle.std.proofs.Common.{sym, ◌∙◌}
use Rattle.std.proofs.lemmas.Result.{err_from_is_err_and}
use Rattle.pddl_forms.proofs.ItemSteps.{many-next, many-done, many-err}
use Rattle.pddl_forms.proofs.item_lists.items.Goals as goal

pub returns-in_err-read : goal.returns-in_err-read
returns-in_err-read g c =
    let p = err_from_is_err_and c.from_residual.result c.from_residual.ensures.1 in
    rw (p.1, p.2) (many-err (g.R.ItemReader.reading c.args.reader.now) c.requires c.loop-alloc.items _ _ _ _ c.loop-alloc.invariant (sym c.is_at.ensures ∙ c.loop-alloc-test.true) c.in_err-read.ensures)

pub loop-alloc-preserved : goal.loop-alloc-preserved
loop-alloc-preserved g c =
    rw c.in_ok-push.ensures.ok (many-next (g.R.ItemReader.reading c.args.reader.now) c.requires c.loop-alloc.items _ _ _ _ c.loop-alloc.invariant (sym c.is_at.ensures ∙ c.loop-alloc-test.true) c.in_ok-read.ensures)

pub returns : goal.returns
returns g c = rw c.pass.ensures.left (many-done (g.R.ItemReader.reading c.args.reader.now) c.requires c.loop-alloc.items _ _ c.loop-alloc.invariant (sym c.is_at.ensures ∙ c.loop-alloc-test.false))

pub loop-alloc-smaller : goal.loop-alloc-smaller
loop-alloc-smaller g c = c.requires _ _ _ c.in_ok-read.ensures
