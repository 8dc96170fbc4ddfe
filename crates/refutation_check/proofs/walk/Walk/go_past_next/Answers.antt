use Rattle.std.proofs.Common.{◌≡◌, ◌∙◌, ◌+◌, ◌-◌, refl, get_or, sym, arith}
use Rattle.std.proofs.lemmas.Bool.{false≢true}
use Rattle.std.specs.Vec.{with_item}
use Rattle.refutation_check.specs.declared.walk.Walk.{Walk}
use Rattle.refutation_check.proofs.Waiting.{still_open}
use Rattle.refutation_check.proofs.Walks.{last_open, last_runs, past_pending, shorter_pending, shorter_walk, still_walk}
use Rattle.refutation_check.proofs.walk.Walk.go_past_next.Goals as goal

pub returns-then-not-go_on-clause-walk : goal.returns-then-not-go_on-clause-walk
returns-then-not-go_on-clause-walk g c =
    let m = g.M.Machine.semantics c.args.machine.now in
    let belongs = g.M.Machine.belongs c.args.machine.now in
    let walk = c.args.self.now in
    let last = walk.depth - 1 in
    let size : last + 1 ≡ walk.depth = omega arith in
    let family = c.index_mut-family.result.now in
    let after = c.go_on.new.self in
    let here : get_or walk.families.items last family ≡ family = sym c.index_mut-family.ensures.value in
    let runs = last_runs m belongs walk c.requires last family size here in
    shorter_walk m belongs walk c.requires last family size here after _ refl refl refl refl (rw c.go_on.ensures.runs runs)

pub returns-then-not-go_on-clause-pending : goal.returns-then-not-go_on-clause-pending
returns-then-not-go_on-clause-pending g c =
    let m = g.M.Machine.semantics c.args.machine.now in
    let belongs = g.M.Machine.belongs c.args.machine.now in
    let walk = c.args.self.now in
    let last = walk.depth - 1 in
    let size : last + 1 ≡ walk.depth = omega arith in
    let family = c.index_mut-family.result.now in
    let after = c.go_on.new.self in
    let here : get_or walk.families.items last family ≡ family = sym c.index_mut-family.ensures.value in
    let new : Walk g.row.C.Denot = record { covering = walk.covering; root = walk.root; depth = last; families = with_item walk.families last after; trials = walk.trials } in
    shorter_pending m belongs walk c.requires last family size here after new refl refl refl c.go_on.ensures.parent c.go_on.ensures.line c.go_on.ensures.rank
    (λ left. false≢true (sym c.if-not-go_on.true ∙ c.go_on.ensures.left.1 left))

pub returns-else-not-go_on-clause-walk : goal.returns-else-not-go_on-clause-walk
returns-else-not-go_on-clause-walk g c =
    let m = g.M.Machine.semantics c.args.machine.now in
    let belongs = g.M.Machine.belongs c.args.machine.now in
    let walk = c.args.self.now in
    let last = walk.depth - 1 in
    let size : last + 1 ≡ walk.depth = omega arith in
    let family = c.index_mut-family.result.now in
    let after = c.go_on.new.self in
    let here : get_or walk.families.items last family ≡ family = sym c.index_mut-family.ensures.value in
    let runs = last_runs m belongs walk c.requires last family size here in
    let old = last_open m belongs walk c.requires last family size here in
    let open_after = still_open m belongs family after old c.go_on.ensures.parent c.go_on.ensures.line c.go_on.ensures.children c.go_on.ensures.used c.go_on.ensures.runs (c.go_on.ensures.left.0 c.if-not-go_on.false) in
    still_walk m belongs walk c.requires last family size here after _ refl refl refl c.requires.trials open_after (rw c.go_on.ensures.runs runs) c.go_on.ensures.parent

pub returns-else-not-go_on-clause-pending : goal.returns-else-not-go_on-clause-pending
returns-else-not-go_on-clause-pending g c =
    let m = g.M.Machine.semantics c.args.machine.now in
    let belongs = g.M.Machine.belongs c.args.machine.now in
    let walk = c.args.self.now in
    let last = walk.depth - 1 in
    let size : last + 1 ≡ walk.depth = omega arith in
    let family = c.index_mut-family.result.now in
    let after = c.go_on.new.self in
    let here : get_or walk.families.items last family ≡ family = sym c.index_mut-family.ensures.value in
    let new : Walk g.row.C.Denot = record { covering = walk.covering; root = walk.root; depth = walk.depth; families = with_item walk.families last after; trials = walk.trials } in
    past_pending m belongs walk c.requires last family size here after new refl refl refl c.go_on.ensures.parent c.go_on.ensures.line c.go_on.ensures.rank
