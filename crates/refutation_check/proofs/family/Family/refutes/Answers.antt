use Rattle.std.proofs.Common.{ℕ, sym, subst, set}
use Rattle.refutation_check.specs.Inner.Runs.{AllStandAt, AreRuns}
use Rattle.refutation_check.proofs.Instances.{runs_set, stand_set}
use Rattle.refutation_check.proofs.Stepping.{stands_extended}
use Rattle.refutation_check.proofs.family.Family.refutes.Goals as goal

pub refutes-requires-clause-going : goal.refutes-requires-clause-going
refutes-requires-clause-going g c =
    stands_extended (g.M.Machine.semantics c.args.machine.now) (g.M.Machine.belongs c.args.machine.now) c.args.program.now c.args.self.now.parent c.args.t c.set_out.new.self.going c.requires.extends c.set_out.ensures.going

pub returns-clause-family : goal.returns-clause-family
returns-clause-family g c =
    let m = g.M.Machine.semantics c.args.machine.now in
    let belongs = g.M.Machine.belongs c.args.machine.now in
    let family = c.args.self.now in
    let old = c.requires.family in
    let run = c.set_out.new.waiting in
    record {
      partial = old.partial;
      short = old.short;
      here = old.here;
      count = old.count;
      left = old.left;
      used = old.used;
      runs = subst (λ (n : ℕ). AllStandAt m belongs family.parent (set family.runs.items n run)) (sym c.from.ensures)
          (stand_set m belongs family.parent family.runs.items c.args.t run c.requires.runs.count old.runs c.set_out.ensures.waiting);
    }

pub returns-clause-runs : goal.returns-clause-runs
returns-clause-runs g c =
    let m = g.M.Machine.semantics c.args.machine.now in
    let belongs = g.M.Machine.belongs c.args.machine.now in
    let runs = c.args.self.now.runs.items in
    let run = c.set_out.new.waiting in
    subst (λ (n : ℕ). AreRuns belongs m.instances (set runs n run)) (sym c.from.ensures) (runs_set belongs m.instances c.args.t runs run c.requires.runs c.set_out.ensures.waiting.value)
