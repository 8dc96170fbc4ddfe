use Rattle.std.proofs.Common.{sym, ◌∙◌}
use Rattle.pddl_forms.proofs.TypedSteps.{word-next, right-next}
use Rattle.pddl_forms.proofs.typed_lists.typed_list.Goals as goal

pub loop-alloc-preserved-in_ok-push : goal.loop-alloc-preserved-in_ok-push
loop-alloc-preserved-in_ok-push c =
    let next = word-next c.args.kind c.loop-alloc.done c.loop-alloc.waiting _ _ c.in_ok-any_word.field-0 (sym c.is_at.ensures ∙ c.loop-alloc-test.true) (sym c.is_at-in-loop-alloc.ensures ∙ c.if-is_at.true) c.in_ok-any_word.ensures in
    rw c.in_ok-push.ensures.ok (sym next ∙ c.loop-alloc.invariant)

pub returns : goal.returns
returns c =
    rw (c.in_ok-with_group.ensures, c.pass.ensures.left) (sym c.loop-alloc.invariant ∙ right-next c.args.kind c.loop-alloc.done c.loop-alloc.waiting _ (sym c.is_at.ensures ∙ c.loop-alloc-test.false))
