use Rattle.std.proofs.Common.{sym, ◌∙◌}
use Rattle.std.proofs.lemmas.Result.{err_from_is_err_and}
use Rattle.pddl_parser.proofs.SectionRounds.{problem_shrink, problem-next, problem-done, problem-err}
use Rattle.pddl_parser.proofs.problem_sections.sections_of.Goals as goal

pub returns-in_err-seen : goal.returns-in_err-seen
returns-in_err-seen c =
    let p = err_from_is_err_and c.from_residual.result c.from_residual.ensures.1 in
    rw (p.1, p.2) (problem-err _ _ _ _ _ c.loop-alloc.invariant (sym c.ends.ensures ∙ c.loop-alloc-test.true) c.in_err-seen.ensures)

pub loop-alloc-smaller : goal.loop-alloc-smaller
loop-alloc-smaller c = problem_shrink _ _ _ _ c.in_ok-seen.ensures

pub loop-alloc-preserved : goal.loop-alloc-preserved
loop-alloc-preserved c = problem-next _ _ _ _ _ c.loop-alloc.invariant (sym c.ends.ensures ∙ c.loop-alloc-test.true) c.in_ok-seen.ensures

pub returns : goal.returns
returns c = rw c.pass.ensures.left (problem-done _ _ _ c.loop-alloc.invariant (sym c.ends.ensures ∙ c.loop-alloc-test.false))
