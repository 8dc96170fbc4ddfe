use Rattle.std.proofs.Common.{sym, ◌∙◌}
use Rattle.pddl_forms.proofs.TypedSteps.{type_of-left, type_of-name}
use Rattle.pddl_forms.proofs.typed_lists.type_name.Goals as goal

pub returns-then-is_at-clause-goes_on : goal.returns-then-is_at-clause-goes_on
returns-then-is_at-clause-goes_on c =
    rw c.pass.ensures.left (type_of-left c.args.cursor.now c.why_no_type.result (sym c.is_at.ensures ∙ c.if-is_at.true) (rw c.pass.ensures.left at c.why_no_type.ensures))

pub returns-clause-goes_on : goal.returns-clause-goes_on
returns-clause-goes_on c = type_of-name c.args.cursor.now _ c.any_word.result (sym c.is_at.ensures ∙ c.if-is_at.false) c.any_word.ensures
