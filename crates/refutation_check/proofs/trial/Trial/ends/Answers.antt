use Rattle.refutation_check.proofs.Stepping.{told_met, tested_zero}
use Rattle.refutation_check.proofs.trial.Trial.ends.Goals as goal

pub returns-clause-ends : goal.returns-clause-ends
returns-clause-ends g c =
    let m = g.M.Machine.semantics c.args.machine.now in
    tested_zero c.eq.result c.missing_at_end.result c.eq.ensures (told_met m c.args.program.now c.args.t c.args.steps c.missing_at_end.result c.requires.partial c.missing_at_end.ensures.told)
