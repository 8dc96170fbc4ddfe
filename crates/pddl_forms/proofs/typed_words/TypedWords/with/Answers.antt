use Rattle.std.proofs.Common.{sym}
use Rattle.pddl_forms.proofs.Groups.{alike_more}
use Rattle.pddl_forms.proofs.typed_words.TypedWords.with.Goals as goal

pub invariant_of-result : goal.invariant_of-result
invariant_of-result c =
    rw (c.in_ok-push.ensures.items, c.in_ok-push-2.ensures.ok) (alike_more c.self.inside.words c.self.inside.alike.items c.args.typed c.args.is_alike c.self.invariant (rw (sym c.self.view_is) at c.requires))
