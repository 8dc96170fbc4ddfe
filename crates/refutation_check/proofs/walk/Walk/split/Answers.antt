use Rattle.std.proofs.Common.{◌+◌, ◌<◌, refl, sym, subst, arith}
use Rattle.std.specs.Vec.{with_item}
use Rattle.program_model.specs.declared.alphabet.TheConstants.{MAX_LINES}
use Rattle.program_model.specs.Program.{Program}
use Rattle.refutation_check.specs.declared.family.Family.{Family}
use Rattle.refutation_check.specs.declared.walk.Walk.{Walk}
use Rattle.refutation_check.specs.Inner.Runs.{AreRuns}
use Rattle.refutation_check.specs.Walking.{open_lines}
use Rattle.refutation_check.proofs.Walks.{longer_pending, longer_walk, room_for}
use Rattle.refutation_check.proofs.walk.Walk.split.Goals as goal

pub index_mut-family-requires : goal.index_mut-family-requires
index_mut-family-requires g c =
    let families = c.args.self.now.families in
    let there = room_for (g.M.Machine.semantics c.args.machine.now) (g.M.Machine.belongs c.args.machine.now) c.args.self.now c.requires.walk c.args.program c.args.line c.requires.here c.requires.narrow in
    omega (arith, there, families.ok.0)

pub split-requires-clause-runs : goal.split-requires-clause-runs
split-requires-clause-runs g c =
    let m = g.M.Machine.semantics c.args.machine.now in
    let belongs = g.M.Machine.belongs c.args.machine.now in
    let walk = c.args.self.now in
    let family = c.index_mut-family.result.now in
    let there = room_for m belongs walk c.requires.walk c.args.program c.args.line c.requires.here c.requires.narrow in
    subst (λ (f : Family g.row.C.Denot). AreRuns belongs m.instances f.runs.items) (sym c.index_mut-family.ensures.value) (c.requires.walk.runs walk.depth family there)

pub returns-clause-walk : goal.returns-clause-walk
returns-clause-walk g c =
    let m = g.M.Machine.semantics c.args.machine.now in
    let belongs = g.M.Machine.belongs c.args.machine.now in
    let walk = c.args.self.now in
    let family = c.split.new.self in
    let narrow : open_lines family.parent + walk.depth < MAX_LINES = subst (λ (q : Program). open_lines q + walk.depth < MAX_LINES) (sym c.split.ensures.parent) c.requires.narrow in
    longer_walk m belongs walk c.requires.walk family _ refl refl narrow c.split.ensures.family.here refl refl c.split.ensures.family c.split.ensures.runs

pub returns-clause-pending : goal.returns-clause-pending
returns-clause-pending g c =
    let m = g.M.Machine.semantics c.args.machine.now in
    let belongs = g.M.Machine.belongs c.args.machine.now in
    let walk = c.args.self.now in
    let family = c.split.new.self in
    let narrow : open_lines family.parent + walk.depth < MAX_LINES = subst (λ (q : Program). open_lines q + walk.depth < MAX_LINES) (sym c.split.ensures.parent) c.requires.narrow in
    let new : Walk g.row.C.Denot = record { covering = walk.covering; root = walk.root; depth = walk.depth + 1; families = with_item walk.families walk.depth family; trials = walk.trials } in
    longer_pending m belongs walk c.requires.walk family new refl refl narrow c.split.ensures.family.here c.args.program c.args.line refl c.split.ensures.parent c.split.ensures.line c.split.ensures.rank
