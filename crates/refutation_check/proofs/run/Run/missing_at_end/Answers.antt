use Rattle.std.proofs.Common.{arith, sym, subst}
use Rattle.program_model.specs.Run.{EndsMissing}
use Rattle.refutation_check.proofs.Stepping.{ends_at}
use Rattle.refutation_check.proofs.run.Run.missing_at_end.Goals as goal

pub returns-then-self-lines-clause-told : goal.returns-then-self-lines-clause-told
returns-then-self-lines-clause-told g c =
    let m = g.M.Machine.semantics c.args.machine.now in
    subst (EndsMissing m c.args.program.now c.args.t c.args.steps) (sym c.missing.ensures)
    (ends_at m (g.M.Machine.belongs c.args.machine.now) c.args.program.now c.args.t c.args.steps c.go_to.new.self c.go_to.ensures.stands c.if-go_to.ensures.come (omega (arith, c.if-self-lines.true)))
