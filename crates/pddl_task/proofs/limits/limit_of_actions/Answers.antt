use Rattle.std.proofs.Common.{◌∙◌, ◌<◌, ◌≤◌, sym, ap, Some, length, arith}
use Rattle.pddl_parser.specs.declared.texts.ActionText.{ActionText}
use Rattle.ground_state.specs.declared.parts.TheConstants.{MAX_PARAMETERS}
use Rattle.pddl_task.specs.declared.refusal.TaskRefusal.TheVariants as refusals
use Rattle.pddl_task.specs.declared.refusal.Which.TheVariants as limits
use Rattle.pddl_task.proofs.Counted.{told_here, told_later, told_nothing}
use Rattle.pddl_task.proofs.limits.limit_of_actions.Goals as goal

pub returns-then-count-gt-MAX_PARAMETERS : goal.returns-then-count-gt-MAX_PARAMETERS
returns-then-count-gt-MAX_PARAMETERS c =
    let many : MAX_PARAMETERS < length c.action-item.result.params = omega arith in
    ap (λ n. Some (refusals.Limit limits.Parameters n)) c.len-count.ensures ∙ sym (c.loop-action.invariant ∙ told_here (refusals.Limit limits.Parameters) MAX_PARAMETERS (λ (action : ActionText). length action.params) c.args.actions.now c.loop-action.action-index c.action-item.result (omega arith) c.action-item.is many)

pub loop-action-preserved : goal.loop-action-preserved
loop-action-preserved c =
    let few : length c.action-item.result.params ≤ MAX_PARAMETERS = omega arith in
    c.loop-action.invariant ∙ told_later (refusals.Limit limits.Parameters) MAX_PARAMETERS (λ (action : ActionText). length action.params) c.args.actions.now c.loop-action.action-index c.action-item.result (omega arith) c.action-item.is few

pub returns : goal.returns
returns c = sym (c.loop-action.invariant ∙ told_nothing (refusals.Limit limits.Parameters) MAX_PARAMETERS (λ (action : ActionText). length action.params) c.args.actions.now c.loop-action.action-index (omega arith))
