use Rattle.std.proofs.Common.{◌∙◌, ap, sym, subst, map, length, slice_index, List, ℕ, ◌<◌, arith}
use Rattle.std.specs.Prelude.{All}
use Rattle.pddl_task.proofs.Ancestors.{above_low, above_twice, tops_are}
use Rattle.pddl_task.proofs.cycles.tops.Goals as goal

pub twice_as_far-requires : goal.twice_as_far-requires
twice_as_far-requires c =
    subst (λ (l : List ℕ). All (λ number. number < length l) l) (sym c.deref.ensures.value)
    (above_low c.args.entries.now c.requires.parents c.loop-steps.above.items c.loop-steps.steps c.loop-steps.invariant.long c.loop-steps.invariant.are)

pub loop-steps-preserved : goal.loop-steps-preserved
loop-steps-preserved c =
    let twice = above_twice c.args.entries.now c.requires.parents c.loop-steps.above.items c.in_ok-above.above.items c.loop-steps.steps c.loop-steps.invariant.long c.loop-steps.invariant.are
    (c.in_ok-above.ensures ∙ ap (λ (l : List ℕ). map (slice_index l) l) c.deref.ensures.value) in
    let some = c.loop-steps.invariant.some in
    record { some = omega (arith, some); long = twice.0; are = twice.1 }

pub returns : goal.returns
returns c =
    let enough = c.loop-steps-test.false in
    tops_are c.args.entries.now c.requires.parents c.requires.root c.loop-steps.above.items c.loop-steps.steps c.loop-steps.invariant.long c.loop-steps.invariant.are (omega arith)
