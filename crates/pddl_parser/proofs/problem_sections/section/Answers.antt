use Rattle.std.proofs.Common.{sym, ◌∙◌}
use Rattle.std.proofs.lemmas.Result.{err_from_is_err_and}
use Rattle.pddl_forms.specs.Offending.{problem_keywords}
use Rattle.pddl_parser.specs.Inner.SectionReading.{problem_choices}
use Rattle.pddl_parser.proofs.Chosen.{section-full, section-opened, section-err}
use Rattle.pddl_parser.proofs.problem_sections.section.Goals as goal

pub returns-then-not-may_grow : goal.returns-then-not-may_grow
returns-then-not-may_grow c = section-full problem_keywords problem_choices c.args.seen _ (sym c.may_grow.ensures ∙ c.if-not-may_grow.true)

pub returns-in_err-mark : goal.returns-in_err-mark
returns-in_err-mark c =
    let p = err_from_is_err_and c.from_residual.result c.from_residual.ensures.1 in
    rw (p.1, p.2) (section-err problem_keywords problem_choices c.args.seen _ _ _ (sym c.may_grow.ensures ∙ c.if-not-may_grow.false) c.in_err-mark.ensures.reads)

pub returns : goal.returns
returns c = section-opened problem_keywords problem_choices c.args.seen _ _ _ _ _ (sym c.may_grow.ensures ∙ c.if-not-may_grow.false) c.in_ok-mark.ensures.reads c.keyed_section.ensures
