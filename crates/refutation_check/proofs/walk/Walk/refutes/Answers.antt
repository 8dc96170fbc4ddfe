use Rattle.std.proofs.Common.{ℕ, ◌≡◌, ◌+◌, ◌-◌, get_or, set, refl, sym, subst, arith}
use Rattle.std.specs.Vec.{with_item}
use Rattle.refutation_check.specs.declared.walk.Walk.{Walk}
use Rattle.refutation_check.specs.Inner.Runs.{AreTrials}
use Rattle.refutation_check.specs.Walking.{path, rooted}
use Rattle.refutation_check.proofs.Instances.{trials_set}
use Rattle.refutation_check.proofs.Waiting.{next_extends}
use Rattle.refutation_check.proofs.Walks.{last_at, last_open, last_size, still_pending, still_walk}
use Rattle.refutation_check.proofs.walk.Walk.refutes.Goals as goal

pub refutes-requires-2-clause-extends : goal.refutes-requires-2-clause-extends
refutes-requires-2-clause-extends g c =
    let m = g.M.Machine.semantics c.args.machine.now in
    let belongs = g.M.Machine.belongs c.args.machine.now in
    let walk = c.args.self.now in
    let h = c.requires.walk in
    let last = walk.depth - 1 in
    let size : last + 1 ≡ walk.depth = omega arith in
    let family = c.index_mut-family.result.now in
    let here : get_or walk.families.items last family ≡ family = sym c.index_mut-family.ensures.value in
    next_extends m belongs last (path walk) (rooted walk.root) family c.args.program.now (last_size m belongs walk h last family size here) (last_at m belongs walk h last family size here) (last_open m belongs walk h last family size here) c.requires.next

pub returns-clause-same : goal.returns-clause-same
returns-clause-same g c =
    let m = g.M.Machine.semantics c.args.machine.now in
    let belongs = g.M.Machine.belongs c.args.machine.now in
    let walk = c.args.self.now in
    let h = c.requires.walk in
    let last = walk.depth - 1 in
    let size : last + 1 ≡ walk.depth = omega arith in
    let family = c.index_mut-family.result.now in
    let here : get_or walk.families.items last family ≡ family = sym c.index_mut-family.ensures.value in
    let after = c.refutes-2.new.self in
    let told = c.refutes-2.ensures in
    let trial = c.refutes-2.new.trial in
    let trials = subst (λ (n : ℕ). AreTrials belongs m.instances (set walk.trials.items n trial)) (sym c.from.ensures) (trials_set belongs m.instances c.args.t walk.trials.items trial h.trials told.trial) in
    let new : Walk g.row.C.Denot = record { covering = walk.covering; root = walk.root; depth = walk.depth; families = with_item walk.families last after; trials = with_item walk.trials c.from.result trial } in
    record {
      walk = still_walk m belongs walk h last family size here after new refl refl refl trials told.family told.runs told.parent;
      covering = refl;
      still = still_pending m belongs walk h last family size here after new refl refl refl told.parent told.line told.rank;
    }
