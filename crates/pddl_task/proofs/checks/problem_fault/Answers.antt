use Rattle.std.proofs.Common.{◌∙◌, ap}
use Rattle.pddl_task.specs.Types.{names_of}
use Rattle.pddl_task.specs.Inner.Arities.{arity_in}
use Rattle.pddl_task.specs.Faults.{arity_named}
use Rattle.pddl_task.specs.Inner.Names.{different}
use Rattle.pddl_task.proofs.SameType.{unknown_in}
use Rattle.pddl_task.proofs.Wholes.{problem_rows, arities_are}
use Rattle.pddl_task.proofs.checks.problem_fault.Goals as goal

pub returns : goal.returns
returns c =
    rw (c.earlier-3.ensures, c.earlier-2.ensures, c.earlier.ensures, c.earlier-of_atoms.ensures)
    (problem_rows c.args.domain.now c.args.problem.now c.in_ok-seen.seen c.in_ok-constants.constants c.in_ok-names.names c.args.types.now (arity_in c.in_ok-arities.arities) c.as_slice-objects.result.now c.as_slice-4.result.now c.as_slice-5.result.now
    c.in_ok-again.again c.first_unknown_type-of_types.result c.in_ok-of_init.of_init c.in_ok-of_goal.of_goal c.other_domain-elsewhere.result
    (c.in_ok-seen.ensures ∙ ap (λ l. different (names_of l)) c.as_slice.ensures)
    (c.in_ok-constants.ensures ∙ ap (λ l. different (names_of l)) c.as_slice-3.ensures)
    (c.in_ok-names.ensures ∙ ap (λ l. different (names_of l)) c.as_slice-objects.ensures)
    c.requires
    (arities_are c.as_slice-2.result.now c.in_ok-arities.arities c.in_ok-arities.ensures ∙ ap arity_named c.as_slice-2.ensures)
    c.as_slice-objects.ensures c.as_slice-4.ensures c.as_slice-5.ensures
    c.in_ok-again.ensures (unknown_in c.args.types.now c.args.problem.now.objects c.as_slice-objects.result.now c.first_unknown_type-of_types.result c.as_slice-objects.ensures c.first_unknown_type-of_types.ensures) c.in_ok-of_init.ensures c.in_ok-of_goal.ensures c.other_domain-elsewhere.ensures)
