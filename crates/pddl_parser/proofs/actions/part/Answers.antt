use Rattle.std.proofs.Common.{sym, ◌∙◌}
use Rattle.pddl_forms.specs.Offending.{part_keywords}
use Rattle.pddl_parser.specs.Inner.SectionReading.{part_choices}
use Rattle.pddl_parser.proofs.Chosen.{choice-taken, choice-none}
use Rattle.pddl_parser.proofs.actions.part.Goals as goal

pub returns-then-is_due : goal.returns-then-is_due
returns-then-is_due c = rw (← c.seen.view_is) (choice-taken part_keywords part_choices _ _ _ _ 0 (sym c.is_due.ensures ∙ c.if-is_due.true, rw (c.pass.ensures.left, ← c.seen.view_is) at c.parameters.ensures))

pub returns-then-is_due-2 : goal.returns-then-is_due-2
returns-then-is_due-2 c = rw (← c.seen.view_is) (choice-taken part_keywords part_choices _ _ _ _ 1 (sym c.is_due.ensures ∙ c.if-is_due.false, (sym c.is_due-2.ensures ∙ c.if-is_due-2.true, rw (c.pass-then-is_due-2.ensures.left, ← c.seen.view_is) at c.precondition.ensures)))

pub returns-then-is_due-3 : goal.returns-then-is_due-3
returns-then-is_due-3 c = rw (← c.seen.view_is) (choice-taken part_keywords part_choices _ _ _ _ 2 (
  sym c.is_due.ensures ∙ c.if-is_due.false,
  (sym c.is_due-2.ensures ∙ c.if-is_due-2.false, (sym c.is_due-3.ensures ∙ c.if-is_due-3.true, rw (c.pass-then-is_due-3.ensures.left, ← c.seen.view_is) at c.effect_part.ensures)),
))

pub returns : goal.returns
returns c = rw (← c.seen.view_is) (choice-none part_keywords part_choices _ _ _ _ _ (
  sym c.is_due.ensures ∙ c.if-is_due.false,
  (sym c.is_due-2.ensures ∙ c.if-is_due-2.false, (sym c.is_due-3.ensures ∙ c.if-is_due-3.false, tt)),
) c.is_at_part.ensures (rw (← c.seen.view_is) at c.may_grow.ensures) c.why_no_key-why.ensures)
