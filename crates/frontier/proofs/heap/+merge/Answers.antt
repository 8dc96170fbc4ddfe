-- A merge goes on below the node whose pair comes first, and hangs what was merged at its right.
use Rattle.std.proofs.Common.{ap, refl, ◌∙◌, arith}
use Rattle.frontier.specs.Inner.Nodes.{pair_slots}
use Rattle.slab.specs.Slab.{Slab}
use Rattle.frontier.proofs.Places.{root_stands}
use Rattle.frontier.proofs.Merging.{chosen, merges_none, Merges-swap, Apart-swap, top_stands, right_link, can_merge_under, ranks_fall, top_after, left_after, heap_after, rank_after, hung_after, pairs-hung}
use Rattle.frontier.proofs.heap.+merge.Goals as goal

pub in_order-top-requires-clause-other : goal.in_order-top-requires-clause-other
in_order-top-requires-clause-other g t c =
    root_stands _ c.requires.second _ c.requires.apart.second_stands (c.requires.apart.other_is ∙ c.in-Some-Some.is-1)

pub index-requires : goal.index-requires
index-requires g t c =
    let w = chosen _ g.met.R.Ranking.is_ranking _ _ _ _ _ _ _ c.in_order-top.result c.in-Some-Some.is-0 c.in-Some-Some.is-1 c.requires.apart c.in_order-top.ensures.order in
    rw (top_stands _ _ _ _ _ _ w) refl

pub merge-merged-requires : goal.merge-merged-requires
merge-merged-requires g t c =
    let w = chosen _ g.met.R.Ranking.is_ranking _ _ _ _ _ _ _ c.in_order-top.result c.in-Some-Some.is-0 c.in-Some-Some.is-1 c.requires.apart c.in_order-top.ensures.order in
    let is = right_link _ _ _ _ _ _ w c.index.result.now c.index.ensures in
    let fall = ranks_fall _ _ _ _ _ _ w c.args.one c.args.other c.index.result.now.right c.requires.apart is in
    λ κs within. (omega (arith, fall, c.decreases), (within.0, (within.1.0, (within.1.1, can_merge_under _ _ _ _ _ _ w c.index.result.now.right is))))

pub hang-requires-clause-top : goal.hang-requires-clause-top
hang-requires-clause-top g t c =
    let w = chosen _ g.met.R.Ranking.is_ranking _ _ _ _ _ _ _ c.in_order-top.result c.in-Some-Some.is-0 c.in-Some-Some.is-1 c.requires.apart c.in_order-top.ensures.order in
    let is = right_link _ _ _ _ _ _ w c.index.result.now c.index.ensures in
    (_, top_after _ _ _ _ _ _ w c.merge-merged.new.nodes.slots c.index.result.now.right c.merge-merged.result _ _ is c.merge-merged.ensures.merged, left_after _ _ _ _ _ _ w c.merge-merged.new.nodes.slots c.index.result.now.right c.merge-merged.result _ _ is c.merge-merged.ensures.merged)

pub hang-requires-clause-heap : goal.hang-requires-clause-heap
hang-requires-clause-heap g t c =
    let w = chosen _ g.met.R.Ranking.is_ranking _ _ _ _ _ _ _ c.in_order-top.result c.in-Some-Some.is-0 c.in-Some-Some.is-1 c.requires.apart c.in_order-top.ensures.order in
    let is = right_link _ _ _ _ _ _ w c.index.result.now c.index.ensures in
    heap_after _ _ _ _ _ _ w c.merge-merged.new.nodes.slots c.index.result.now.right c.merge-merged.result _ _ is c.merge-merged.ensures.merged

pub hang-requires-clause-fits : goal.hang-requires-clause-fits
hang-requires-clause-fits g t c =
    let w = chosen _ g.met.R.Ranking.is_ranking _ _ _ _ _ _ _ c.in_order-top.result c.in-Some-Some.is-0 c.in-Some-Some.is-1 c.requires.apart c.in_order-top.ensures.order in
    let is = right_link _ _ _ _ _ _ w c.index.result.now c.index.ensures in
    rank_after _ _ _ _ _ _ w c.merge-merged.new.nodes.slots c.index.result.now.right c.merge-merged.result _ _ is c.merge-merged.ensures.merged

pub returns-in-None-default-clause-merged : goal.returns-in-None-default-clause-merged
returns-in-None-default-clause-merged g t c =
    λ first second apart. merges_none _ _ c.args.one c.args.other first second _ c.in-None-default.is-0 apart

pub returns-in_default-None-clause-merged : goal.returns-in_default-None-clause-merged
returns-in_default-None-clause-merged g t c =
    λ first second apart.
    Merges-swap _ _ _ second first _ _ _ (merges_none _ _ c.args.other c.args.one second first _ c.in_default-None.is-1 (Apart-swap _ _ _ _ first second apart))

pub returns-in-Some-Some-clause-merged : goal.returns-in-Some-Some-clause-merged
returns-in-Some-Some-clause-merged g t c =
    λ first second apart.
    let w = chosen _ g.met.R.Ranking.is_ranking _ _ _ _ _ first second c.in_order-top.result c.in-Some-Some.is-0 c.in-Some-Some.is-1 apart c.in_order-top.ensures.order in
    let is = right_link _ _ _ _ _ _ w c.index.result.now c.index.ensures in
    hung_after _ _ _ _ _ _ w c.merge-merged.new.nodes.slots c.index.result.now.right c.merge-merged.result _ _ is c.merge-merged.ensures.merged c.hang.new.nodes.slots _ c.in_order-top.ensures.compared (λ n found. ap (λ (s : Slab _). s.slots) (c.hang.ensures n found))

pub returns-in-Some-Some-clause-pairs : goal.returns-in-Some-Some-clause-pairs
returns-in-Some-Some-clause-pairs g t c =
    let w = chosen _ g.met.R.Ranking.is_ranking _ _ _ _ _ _ _ c.in_order-top.result c.in-Some-Some.is-0 c.in-Some-Some.is-1 c.requires.apart c.in_order-top.ensures.order in
    let is = right_link _ _ _ _ _ _ w c.index.result.now c.index.ensures in
    let there = top_after _ _ _ _ _ _ w c.merge-merged.new.nodes.slots c.index.result.now.right c.merge-merged.result _ _ is c.merge-merged.ensures.merged in
    let hung = c.hang.ensures _ there in
    ap (λ (s : Slab _). pair_slots s.slots) hung ∙ pairs-hung c.merge-merged.new.nodes.slots _ _ _ there ∙ c.merge-merged.ensures.pairs

pub returns-in-Some-Some-clause-capacity : goal.returns-in-Some-Some-clause-capacity
returns-in-Some-Some-clause-capacity g t c =
    let w = chosen _ g.met.R.Ranking.is_ranking _ _ _ _ _ _ _ c.in_order-top.result c.in-Some-Some.is-0 c.in-Some-Some.is-1 c.requires.apart c.in_order-top.ensures.order in
    let is = right_link _ _ _ _ _ _ w c.index.result.now c.index.ensures in
    let there = top_after _ _ _ _ _ _ w c.merge-merged.new.nodes.slots c.index.result.now.right c.merge-merged.result _ _ is c.merge-merged.ensures.merged in
    ap (λ (s : Slab _). s.capacity) (c.hang.ensures _ there) ∙ c.merge-merged.ensures.capacity
