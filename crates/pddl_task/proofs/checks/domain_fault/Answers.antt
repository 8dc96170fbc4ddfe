use Rattle.std.proofs.Common.{◌∙◌, ap}
use Rattle.pddl_task.specs.Types.{names_of}
use Rattle.pddl_task.specs.Inner.Arities.{arity_in}
use Rattle.pddl_task.specs.Faults.{arity_named}
use Rattle.pddl_task.specs.Inner.Names.{different}
use Rattle.pddl_task.proofs.SameType.{unknown_in}
use Rattle.pddl_task.proofs.Wholes.{domain_rows, arities_are}
use Rattle.pddl_task.proofs.checks.domain_fault.Goals as goal

pub returns : goal.returns
returns c =
    rw (c.earlier-5.ensures, c.earlier-4.ensures, c.earlier-twice.ensures, c.earlier-3.ensures, c.earlier-2.ensures, c.earlier-of_types.ensures, c.earlier.ensures)
    (domain_rows c.args.domain.now c.new.result c.new-2.result c.new-3.result c.new-4.result c.in_ok-names.names c.args.types.now (arity_in c.in_ok-arities.arities)
    c.as_slice.result.now c.as_slice-2.result.now c.as_slice-constants.result.now c.as_slice-predicates.result.now c.as_slice-actions.result.now
    c.in_ok-type_again.type_again c.in_ok-constant_again.constant_again c.in_ok-head_again.head_again c.in_ok-action_again.action_again c.in_ok-cycle.cycle c.first_unknown_type-of_constants.result c.in_ok-of_predicates.of_predicates c.in_ok-of_actions.of_actions
    c.new.ensures c.new-2.ensures c.new-3.ensures c.new-4.ensures
    (c.in_ok-names.ensures ∙ ap (λ l. different (names_of l)) c.as_slice-constants.ensures)
    c.requires.names
    (arities_are c.as_slice-predicates.result.now c.in_ok-arities.arities c.in_ok-arities.ensures ∙ ap arity_named c.as_slice-predicates.ensures)
    c.as_slice.ensures c.as_slice-2.ensures c.as_slice-constants.ensures c.as_slice-predicates.ensures c.as_slice-actions.ensures
    c.in_ok-type_again.ensures c.in_ok-constant_again.ensures c.in_ok-head_again.ensures c.in_ok-action_again.ensures c.in_ok-cycle.ensures (unknown_in c.args.types.now c.args.domain.now.constants c.as_slice-constants.result.now c.first_unknown_type-of_constants.result c.as_slice-constants.ensures c.first_unknown_type-of_constants.ensures) c.in_ok-of_predicates.ensures c.in_ok-of_actions.ensures)
