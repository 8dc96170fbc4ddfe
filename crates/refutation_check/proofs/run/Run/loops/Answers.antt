use Rattle.std.proofs.Common.{sym, ap, ◌∙◌}
use Rattle.refutation_check.specs.Inner.Runs.{config_of}
use Rattle.refutation_check.proofs.Stepping.{loops_where_same}
use Rattle.refutation_check.proofs.run.Run.loops.Goals as goal

pub returns-then-go_to-clause-loops : goal.returns-then-go_to-clause-loops
returns-then-go_to-clause-loops g c =
    let kept = ap config_of c.become_like.ensures in
    let both = loops_where_same _ (g.M.Machine.belongs c.args.machine.now) _ _ _ _ c.go_to.new.self c.go_to-2.new.self c.requires.order c.go_to.ensures.stands c.if-not-go_to.ensures.come c.go_to-2.ensures.stands c.if-go_to.ensures.come in
    (λ same. both.0 (c.is_same.ensures.0 same ∙ kept), λ loops. c.is_same.ensures.1 (both.1 loops ∙ sym kept))
