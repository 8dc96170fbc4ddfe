use Rattle.std.proofs.lemmas.Result.{err_from_is_err_and}
use Rattle.pddl_forms.specs.Offending.{domain_keywords}
use Rattle.pddl_parser.specs.Inner.SectionReading.{domain_choices}
use Rattle.pddl_parser.proofs.Chosen.{section-opened, section-err}
use Rattle.pddl_parser.proofs.SectionRounds.{domain_may}
use Rattle.pddl_parser.proofs.domain_sections.section.Goals as goal

pub returns-in_err-mark : goal.returns-in_err-mark
returns-in_err-mark c =
    let p = err_from_is_err_and c.from_residual.result c.from_residual.ensures.1 in
    rw (p.1, p.2) (section-err domain_keywords domain_choices c.args.seen _ _ _ (domain_may c.args.seen) c.in_err-mark.ensures.reads)

pub returns : goal.returns
returns c = section-opened domain_keywords domain_choices c.args.seen _ _ _ _ _ (domain_may c.args.seen) c.in_ok-mark.ensures.reads c.keyed_section.ensures
