use Rattle.std.proofs.Common.{length, take, bytes_eq, ap, ◌∙◌, arith}
use Rattle.std.proofs.lemmas.List.{take_all}
use Rattle.pddl_task.specs.Faults.{arity_named}
use Rattle.pddl_task.proofs.NamesOf.{one_more}
use Rattle.pddl_task.proofs.ArityTables.{noted, still_counted, at_number}
use Rattle.pddl_task.proofs.arities.Arities.of.Goals as goal

pub loop-predicate-preserved : goal.loop-predicate-preserved
loop-predicate-preserved c = rw (c.in_ok-note.ensures.heads, c.in_ok-note.ensures.counts, one_more c.args.predicates.now c.loop-predicate.predicate-index c.predicate-item.result (omega arith) c.predicate-item.is) (record {
  counted = still_counted c.loop-predicate.arities.heads c.loop-predicate.arities.counts.items c.predicate-item.result.head.text (length c.predicate-item.result.params) c.loop-predicate.invariant.counted;
  named = noted c.loop-predicate.arities.heads c.loop-predicate.arities.counts.items (take c.loop-predicate.predicate-index c.args.predicates.now) c.predicate-item.result c.loop-predicate.invariant.counted c.loop-predicate.invariant.named;
})

pub returns : goal.returns
returns c = record {
  counted = c.loop-predicate.invariant.counted;
  named = λ name. at_number (bytes_eq name) c.loop-predicate.arities.heads c.loop-predicate.arities.counts.items c.loop-predicate.invariant.counted
      ∙ c.loop-predicate.invariant.named name
      ∙ ap (λ l. arity_named l name) (take_all c.loop-predicate.predicate-index c.args.predicates.now (omega arith));
}
