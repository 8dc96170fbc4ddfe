use Rattle.std.proofs.Common.{sym, ◌∙◌}
use Rattle.pddl_forms.specs.Offending.{domain_keywords}
use Rattle.pddl_parser.specs.Inner.SectionReading.{domain_choices}
use Rattle.pddl_parser.proofs.Chosen.{choice-taken, choice-none}
use Rattle.pddl_parser.proofs.Rounds.{beside_true}
use Rattle.pddl_parser.proofs.SectionRounds.{domain_may}
use Rattle.pddl_parser.proofs.domain_sections.keyed_section.Goals as goal

pub returns-then-is_due : goal.returns-then-is_due
returns-then-is_due c = rw (← c.seen.view_is) (choice-taken domain_keywords domain_choices _ _ _ _ 0 (sym c.is_due.ensures ∙ c.if-is_due.true, rw (c.pass.ensures.left, ← c.seen.view_is) at c.requirements_section.ensures))

pub returns-then-is_due-2 : goal.returns-then-is_due-2
returns-then-is_due-2 c = rw (← c.seen.view_is) (choice-taken domain_keywords domain_choices _ _ _ _ 1 (
  sym c.is_due.ensures ∙ c.if-is_due.false,
  (sym c.is_due-2.ensures ∙ c.if-is_due-2.true, rw (c.pass-then-is_due-2.ensures.left, ← c.seen.view_is) at c.types_section.ensures),
))

pub returns-then-is_due-3 : goal.returns-then-is_due-3
returns-then-is_due-3 c = rw (← c.seen.view_is) (choice-taken domain_keywords domain_choices _ _ _ _ 2 (
  sym c.is_due.ensures ∙ c.if-is_due.false,
  (
    sym c.is_due-2.ensures ∙ c.if-is_due-2.false,
    (sym c.is_due-3.ensures ∙ c.if-is_due-3.true, rw (c.pass-then-is_due-3.ensures.left, ← c.seen.view_is) at c.constants_section.ensures),
  ),
))

pub returns-then-is_due-4 : goal.returns-then-is_due-4
returns-then-is_due-4 c = rw (← c.seen.view_is) (choice-taken domain_keywords domain_choices _ _ _ _ 3 (
  sym c.is_due.ensures ∙ c.if-is_due.false,
  (
    sym c.is_due-2.ensures ∙ c.if-is_due-2.false,
    (
      sym c.is_due-3.ensures ∙ c.if-is_due-3.false,
      (sym c.is_due-4.ensures ∙ c.if-is_due-4.true, rw (c.pass-then-is_due-4.ensures.left, ← c.seen.view_is) at c.predicates_section.ensures),
    ),
  ),
))

pub returns-then-is_at_word : goal.returns-then-is_at_word
returns-then-is_at_word c = rw (← c.seen.view_is) (choice-taken domain_keywords domain_choices _ _ _ _ 4 (
  sym c.is_due.ensures ∙ c.if-is_due.false,
  (
    sym c.is_due-2.ensures ∙ c.if-is_due-2.false,
    (
      sym c.is_due-3.ensures ∙ c.if-is_due-3.false,
      (
        sym c.is_due-4.ensures ∙ c.if-is_due-4.false,
        (beside_true _ _ (sym c.is_at_word.ensures ∙ c.if-is_at_word.true), rw (c.pass-then-is_at_word.ensures.left, ← c.seen.view_is) at c.action_section.ensures),
      ),
    ),
  ),
))

pub returns : goal.returns
returns c = rw (← c.seen.view_is) (choice-none domain_keywords domain_choices _ _ _ _ _ (
  sym c.is_due.ensures ∙ c.if-is_due.false,
  (
    sym c.is_due-2.ensures ∙ c.if-is_due-2.false,
    (
      sym c.is_due-3.ensures ∙ c.if-is_due-3.false,
      (sym c.is_due-4.ensures ∙ c.if-is_due-4.false, (beside_true _ _ (sym c.is_at_word.ensures ∙ c.if-is_at_word.false), tt)),
    ),
  ),
) c.is_at_section.ensures (rw (← c.seen.view_is) at (sym (domain_may c.args.seen))) c.why_no_key-why.ensures)
