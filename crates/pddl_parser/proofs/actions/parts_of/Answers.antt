use Rattle.std.proofs.Common.{sym, ◌∙◌}
use Rattle.std.proofs.lemmas.Result.{err_from_is_err_and}
use Rattle.pddl_parser.proofs.SectionRounds.{parts_shrink, parts-next, parts-done, parts-err}
use Rattle.pddl_parser.proofs.actions.parts_of.Goals as goal

pub returns-in_err-seen : goal.returns-in_err-seen
returns-in_err-seen c =
    let p = err_from_is_err_and c.from_residual.result c.from_residual.ensures.1 in
    rw (p.1, p.2) (parts-err _ _ _ _ _ c.loop-alloc.invariant (sym c.is_at.ensures ∙ c.loop-alloc-test.true) c.in_err-seen.ensures)

pub loop-alloc-smaller : goal.loop-alloc-smaller
loop-alloc-smaller c = parts_shrink _ _ _ _ c.in_ok-seen.ensures

pub loop-alloc-preserved : goal.loop-alloc-preserved
loop-alloc-preserved c = parts-next _ _ _ _ _ c.loop-alloc.invariant (sym c.is_at.ensures ∙ c.loop-alloc-test.true) c.in_ok-seen.ensures

pub returns : goal.returns
returns c = rw c.pass.ensures.left (parts-done _ _ _ c.loop-alloc.invariant (sym c.is_at.ensures ∙ c.loop-alloc-test.false))
