use Rattle.std.proofs.Common.{◌≡◌, ◌∙◌, ◌+◌, ◌-◌, ◌++◌, ap, arith, map, zero-add}
use Rattle.std.specs.List.{range_with_len}
use Rattle.pointer_machine.proofs.Lists.{pair_with, range_more}
use Rattle.pointer_machine.proofs.operations.add_pairs_of.Goals as goal

pub below-preserved : goal.below-preserved
below-preserved c =
    range_more (pair_with c.args.pointer) 0 c.below.other _ _ _ _ (zero-add c.below.other) c.below.invariant c.in_ok-push.ensures.items

pub above-preserved : goal.above-preserved
above-preserved c =
    let first = c.args.pointer + 1 in
    let next : c.above.other - first + 1 ≡ c.above.other + 1 - first = omega arith in
    range_more (pair_with c.args.pointer) first (c.above.other - first) c.above.other _ _ _ (omega arith) c.above.invariant c.in_ok-push-2.ensures.items ∙ ap (λ n. c.below.listed.items ++ map (pair_with c.args.pointer) (range_with_len first n)) next
