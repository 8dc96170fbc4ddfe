use Rattle.std.proofs.Common.{◌≡◌, length}
use Rattle.pddl_parser.specs.declared.texts.ActionText.{ActionText}
use Rattle.ground_state.specs.declared.parts.TheConstants.{MAX_PARAMETERS}
use Rattle.pddl_task.specs.declared.refusal.TaskRefusal.TheVariants as refusals
use Rattle.pddl_task.specs.declared.refusal.Which.TheVariants as limits
use Rattle.pddl_task.proofs.Counted.{told_from}
use Rattle.pddl_task.proofs.limits.limit_of_actions.Given as goal

abbrev pub invariant-loop-action : goal.invariant-loop-action
invariant-loop-action l = told_from (refusals.Limit limits.Parameters) MAX_PARAMETERS (λ (action : ActionText). length action.params) l.actions 0 ≡ told_from (refusals.Limit limits.Parameters) MAX_PARAMETERS (λ (action : ActionText). length action.params) l.actions l.action-index
