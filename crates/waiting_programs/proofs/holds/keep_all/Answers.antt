-- The iterator gives the values in order, each once.
use Rattle.std.proofs.Common.{◌∷◌, ◌++◌, [], List, ap, ◌∙◌, arith}
use Rattle.std.proofs.lemmas.List.{length_push}
use Rattle.waiting_programs.proofs.Exchanging.{counts_push, values_push, distinct_push}
use Rattle.waiting_programs.proofs.holds.keep_all.Goals as goal

pub loop-value-preserved : goal.loop-value-preserved
loop-value-preserved g c =
    let i = c.loop-value.invariant in
    let k = c.keep.ensures in
    let slots = c.loop-value.slots.items in
    rw c.in_ok-push.ensures.items (record {
      counts = counts_push c.loop-value.pool c.keep.new.self slots c.keep.result c.in-Some.value i.counts k.fresh k.value k.count k.others;
      values = values_push c.loop-value.pool c.keep.new.self slots c.keep.result c.in-Some.value i.counts k.fresh k.value k.count k.others ∙ ap (λ (xs : List _). xs ++ c.in-Some.value ∷ []) i.values;
      distinct = distinct_push c.loop-value.pool c.keep.new.self slots c.keep.result c.in-Some.value i.counts k.fresh k.value k.count k.others i.distinct;
      spare = omega (arith, i.spare, k.spare, length_push c.loop-value.yielded c.in-Some.value);
    })
