use Rattle.std.proofs.Common.{◌++◌, ap, ◌∙◌}
use Rattle.std.specs.List.{flat_map}
use Rattle.pddl_printer.specs.Printing.{spaced, predicate_words}
use Rattle.pddl_printer.proofs.Spaced.{next_item, last_item}
use Rattle.pddl_printer.proofs.sections.predicates.Goals as goal

pub loop-each-preserved : goal.loop-each-preserved
loop-each-preserved c = next_item predicate_words _ _ _ _ c.loop-each.each-index c.each-item.result c.loop-each-test.true c.each-item.is c.loop-each.invariant c.in_ok-predicate.ensures

pub returns : goal.returns
returns c = last_item predicate_words _ _ _ c.loop-each.each-index c.loop-each-test.false c.loop-each.invariant ∙ ap (λ items. c.args.out.now ++ spaced (flat_map predicate_words items)) c.as_slice-each-items.ensures
