use Rattle.std.proofs.Common.{◌≡◌, length}
use Rattle.pddl_parser.specs.declared.texts.PredText.{PredText}
use Rattle.ground_state.specs.declared.parts.TheConstants.{MAX_ARITY}
use Rattle.pddl_task.specs.declared.refusal.TaskRefusal.TheVariants as refusals
use Rattle.pddl_task.specs.declared.refusal.Which.TheVariants as limits
use Rattle.pddl_task.proofs.Counted.{told_from}
use Rattle.pddl_task.proofs.limits.limit_of_predicates.Given as goal

abbrev pub invariant-loop-predicate : goal.invariant-loop-predicate
invariant-loop-predicate l = told_from (refusals.Limit limits.Arity) MAX_ARITY (λ (predicate : PredText). length predicate.params) l.predicates 0 ≡ told_from (refusals.Limit limits.Arity) MAX_ARITY (λ (predicate : PredText). length predicate.params) l.predicates l.predicate-index
