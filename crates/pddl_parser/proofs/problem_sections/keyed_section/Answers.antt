use Rattle.std.proofs.Common.{sym, ◌∙◌}
use Rattle.pddl_forms.specs.Offending.{problem_keywords}
use Rattle.pddl_parser.specs.Inner.SectionReading.{problem_choices}
use Rattle.pddl_parser.proofs.Chosen.{choice-taken, choice-none}
use Rattle.pddl_parser.proofs.problem_sections.keyed_section.Goals as goal

pub returns-then-is_due : goal.returns-then-is_due
returns-then-is_due c = rw (← c.seen.view_is) (choice-taken problem_keywords problem_choices _ _ _ _ 0 (sym c.is_due.ensures ∙ c.if-is_due.true, rw (c.pass.ensures.left, ← c.seen.view_is) at c.domain_section.ensures))

pub returns-then-is_due-2 : goal.returns-then-is_due-2
returns-then-is_due-2 c = rw (← c.seen.view_is) (choice-taken problem_keywords problem_choices _ _ _ _ 1 (sym c.is_due.ensures ∙ c.if-is_due.false, (sym c.is_due-2.ensures ∙ c.if-is_due-2.true, rw (c.pass-then-is_due-2.ensures.left, ← c.seen.view_is) at c.requirements_section.ensures)))

pub returns-then-is_due-3 : goal.returns-then-is_due-3
returns-then-is_due-3 c = rw (← c.seen.view_is) (choice-taken problem_keywords problem_choices _ _ _ _ 2 (sym c.is_due.ensures ∙ c.if-is_due.false, (sym c.is_due-2.ensures ∙ c.if-is_due-2.false, (sym c.is_due-3.ensures ∙ c.if-is_due-3.true, rw (c.pass-then-is_due-3.ensures.left, ← c.seen.view_is) at c.objects_section.ensures))))

pub returns-then-is_due-4 : goal.returns-then-is_due-4
returns-then-is_due-4 c = rw (← c.seen.view_is) (choice-taken problem_keywords problem_choices _ _ _ _ 3 (sym c.is_due.ensures ∙ c.if-is_due.false, (sym c.is_due-2.ensures ∙ c.if-is_due-2.false, (sym c.is_due-3.ensures ∙ c.if-is_due-3.false, (sym c.is_due-4.ensures ∙ c.if-is_due-4.true, rw (c.pass-then-is_due-4.ensures.left, ← c.seen.view_is) at c.init_section.ensures)))))

pub returns-then-is_due-5 : goal.returns-then-is_due-5
returns-then-is_due-5 c = rw (← c.seen.view_is) (choice-taken problem_keywords problem_choices _ _ _ _ 4 (sym c.is_due.ensures ∙ c.if-is_due.false, (sym c.is_due-2.ensures ∙ c.if-is_due-2.false, (sym c.is_due-3.ensures ∙ c.if-is_due-3.false, (sym c.is_due-4.ensures ∙ c.if-is_due-4.false, (sym c.is_due-5.ensures ∙ c.if-is_due-5.true, rw (c.pass-then-is_due-5.ensures.left, ← c.seen.view_is) at c.goal_section.ensures))))))

pub returns : goal.returns
returns c = rw (← c.seen.view_is) (choice-none problem_keywords problem_choices _ _ _ _ _ (sym c.is_due.ensures ∙ c.if-is_due.false, (sym c.is_due-2.ensures ∙ c.if-is_due-2.false, (sym c.is_due-3.ensures ∙ c.if-is_due-3.false, (sym c.is_due-4.ensures ∙ c.if-is_due-4.false, (sym c.is_due-5.ensures ∙ c.if-is_due-5.false, tt))))) c.is_at_section.ensures (rw (← c.seen.view_is) at c.may_grow.ensures) c.why_no_key-why.ensures)
