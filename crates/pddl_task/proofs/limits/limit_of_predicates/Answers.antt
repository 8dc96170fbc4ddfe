use Rattle.std.proofs.Common.{◌∙◌, ◌<◌, ◌≤◌, sym, ap, Some, length, arith}
use Rattle.pddl_parser.specs.declared.texts.PredText.{PredText}
use Rattle.ground_state.specs.declared.parts.TheConstants.{MAX_ARITY}
use Rattle.pddl_task.specs.declared.refusal.TaskRefusal.TheVariants as refusals
use Rattle.pddl_task.specs.declared.refusal.Which.TheVariants as limits
use Rattle.pddl_task.proofs.Counted.{told_here, told_later, told_nothing}
use Rattle.pddl_task.proofs.limits.limit_of_predicates.Goals as goal

pub returns-then-count-from : goal.returns-then-count-from
returns-then-count-from c =
    let many : MAX_ARITY < length c.predicate-item.result.params = omega arith in
    ap (λ n. Some (refusals.Limit limits.Arity n)) c.len-count.ensures ∙ sym (c.loop-predicate.invariant ∙ told_here (refusals.Limit limits.Arity) MAX_ARITY (λ (predicate : PredText). length predicate.params) c.args.predicates.now c.loop-predicate.predicate-index c.predicate-item.result (omega arith) c.predicate-item.is many)

pub loop-predicate-preserved : goal.loop-predicate-preserved
loop-predicate-preserved c =
    let few : length c.predicate-item.result.params ≤ MAX_ARITY = omega arith in
    c.loop-predicate.invariant ∙ told_later (refusals.Limit limits.Arity) MAX_ARITY (λ (predicate : PredText). length predicate.params) c.args.predicates.now c.loop-predicate.predicate-index c.predicate-item.result (omega arith) c.predicate-item.is few

pub returns : goal.returns
returns c = sym (c.loop-predicate.invariant ∙ told_nothing (refusals.Limit limits.Arity) MAX_ARITY (λ (predicate : PredText). length predicate.params) c.args.predicates.now c.loop-predicate.predicate-index (omega arith))
