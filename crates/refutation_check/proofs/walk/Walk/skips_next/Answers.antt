use Rattle.std.proofs.Common.{◌∙◌, ◌-◌, ◌≡◌, sym, length, subst, take, List}
use Rattle.std.specs.Prelude.{slice_get, Some, None}
use Rattle.refutation_check.specs.declared.family.Family.{Family}
use Rattle.refutation_check.specs.Walking.{path, rooted}
use Rattle.refutation_check.proofs.Waiting.{skips_as_last, skips_no_root}
use Rattle.refutation_check.proofs.walk.Walk.skips_next.Goals as goal

pub returns-in-Some : goal.returns-in-Some
returns-in-Some g c =
    let m = g.M.Machine.semantics c.args.machine.now in
    let walk = c.args.self.now in
    let family = c.in-Some.family.now in
    let last : slice_get (path walk) (length (path walk) - 1) ≡ Some family =
    subst (λ (l : List (Family _)). slice_get (take walk.depth l) (length (take walk.depth l) - 1) ≡ Some family) c.deref.ensures.value (sym c.in-Some.ensures.value) in
    c.child_is_twin.ensures ∙ skips_as_last m (g.M.Machine.belongs c.args.machine.now) (path walk) (rooted walk.root) family last c.requires.families

pub returns-in-None : goal.returns-in-None
returns-in-None g c =
    let m = g.M.Machine.semantics c.args.machine.now in
    let walk = c.args.self.now in
    let none : None ≡ slice_get (path walk) (length (path walk) - 1) =
    subst (λ (l : List (Family _)). None ≡ slice_get (take walk.depth l) (length (take walk.depth l) - 1)) c.deref.ensures.value c.in-None.ensures.value in
    skips_no_root m (path walk) walk.root none
