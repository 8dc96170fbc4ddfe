use Rattle.std.proofs.Common.{◌∙◌, ◌-◌, ◌≡◌, sym, ap, length, subst, take, List}
use Rattle.std.specs.Prelude.{slice_get, Some, None}
use Rattle.refutation_check.specs.declared.family.Family.{Family}
use Rattle.refutation_check.specs.Walking.{path, rooted}
use Rattle.refutation_check.proofs.Waiting.{next_is_child}
use Rattle.refutation_check.proofs.Walks.{next_child_narrow, next_root_narrow}
use Rattle.refutation_check.proofs.walk.Walk.next.Goals as goal

pub returns-in-Some-clause-next : goal.returns-in-Some-clause-next
returns-in-Some-clause-next g c =
    let m = g.M.Machine.semantics c.args.machine.now in
    let walk = c.args.self.now in
    let family = c.in-Some.family.now in
    let last : slice_get (path walk) (length (path walk) - 1) ≡ Some family =
    subst (λ (l : List (Family _)). slice_get (take walk.depth l) (length (take walk.depth l) - 1) ≡ Some family) c.deref.ensures.value (sym c.in-Some.ensures.value) in
    next_is_child m (path walk) (rooted walk.root) family c.child.result last c.child.ensures.value

pub returns-in-Some-clause-narrow : goal.returns-in-Some-clause-narrow
returns-in-Some-clause-narrow g c =
    let m = g.M.Machine.semantics c.args.machine.now in
    let walk = c.args.self.now in
    let family = c.in-Some.family.now in
    let last : slice_get (path walk) (length (path walk) - 1) ≡ Some family =
    subst (λ (l : List (Family _)). slice_get (take walk.depth l) (length (take walk.depth l) - 1) ≡ Some family) c.deref.ensures.value (sym c.in-Some.ensures.value) in
    next_child_narrow m (g.M.Machine.belongs c.args.machine.now) walk c.requires family c.child.result last c.child.ensures.value

pub returns-in-Some-root-clause-narrow : goal.returns-in-Some-root-clause-narrow
returns-in-Some-root-clause-narrow g c =
    let m = g.M.Machine.semantics c.args.machine.now in
    let walk = c.args.self.now in
    let none : None ≡ slice_get (path walk) (length (path walk) - 1) =
    subst (λ (l : List (Family _)). None ≡ slice_get (take walk.depth l) (length (take walk.depth l) - 1)) c.deref.ensures.value c.in-None.ensures.value in
    next_root_narrow m (g.M.Machine.belongs c.args.machine.now) walk c.requires c.copy.result none (c.in-Some-root.is ∙ ap Some (sym c.copy.ensures))
