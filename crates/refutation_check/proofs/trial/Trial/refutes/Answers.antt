use Rattle.std.proofs.Common.{ℕ, ◌<◌, sym, subst, nat_lt}
use Rattle.std.specs.Prelude.{◌↔◌, IsTrue, unwrap_or}
use Rattle.program_model.specs.Run.{Unmet}
use Rattle.refutation_tree.specs.declared.evidence.Mark.{Mark}
use Rattle.refutation_check.specs.Inner.Walking.{NamesRun, Refutes}
use Rattle.refutation_check.proofs.Stepping.{told_unmet, tested_above}
use Rattle.refutation_check.proofs.trial.Trial.refutes.Goals as goal

pub returns-in-Unmet-clause-refutes : goal.returns-in-Unmet-clause-refutes
returns-in-Unmet-clause-refutes g c =
    let m = g.M.Machine.semantics c.args.machine.now in
    let t = c.args.t in
    let told = told_unmet m c.args.program.now t c.in-Unmet.steps c.missing_at_end-missing.result c.requires.partial c.missing_at_end-missing.ensures.told in
    let names = subst (NamesRun m.instances t) c.in-Unmet.is c.requires.names in
    subst (λ (mark : Mark). IsTrue (nat_lt 0 c.unwrap_or.result) ↔ Refutes m c.args.program.now mark) (sym c.in-Unmet.is)
    (tested_above c.unwrap_or.result (unwrap_or c.missing_at_end-missing.result 0) c.unwrap_or.ensures
    (subst (λ (n : ℕ). (0 < unwrap_or c.missing_at_end-missing.result 0) ↔ Unmet m c.args.program.now n c.in-Unmet.steps) (sym names.0) told))
