use Rattle.std.proofs.Common.{Some, None, refl, sym}
use Rattle.std.proofs.lemmas.Bool.{true≢false}
use Rattle.synthesis.specs.declared.newest.Ending.TheVariants as endings
use Rattle.synthesis.specs.Inner.Nodes.{IsEndingOf}
use Rattle.synthesis.specs.Inner.Working.{counts}
use Rattle.synthesis.proofs.SizesOfNodes.{some_pair, no_pair, few_grown, closes_by_newest, sound_by_newest, closes_refuted, closes_spent, grows_further, searched_closed, sound_closed}
use Rattle.synthesis.proofs.searcher.Searcher.search_size.Goals as goal

pub loop-ending-init : goal.loop-ending-init
loop-ending-init g c = c.in_ok-nodes.ensures c.args.self.now.bounds.now.budget c.args.from

pub returns-in-Some-clause-searched : goal.returns-in-Some-clause-searched
returns-in-Some-clause-searched g c =
    let grown = c.loop-ending.invariant in
    searched_closed grown (Some c.in-Some.ending) c.closed.result c.closed.ensures (closes_by_newest grown c.in-Some.ending (rw c.in-Some.is at c.ending.ensures))

pub returns-in-Some-clause-sound : goal.returns-in-Some-clause-sound
returns-in-Some-clause-sound g c =
    let grown = c.loop-ending.invariant in
    sound_closed grown (Some c.in-Some.ending) c.closed.result c.closed.ensures (sound_by_newest grown c.in-Some.ending (rw c.in-Some.is at c.ending.ensures))

pub returns-then-not-has_waiting-clause-searched : goal.returns-then-not-has_waiting-clause-searched
returns-then-not-has_waiting-clause-searched g c =
    let grown = c.loop-ending.invariant in
    let goes_on : IsEndingOf c.loop-ending.newest None = rw c.in_default.is at c.ending.ensures in
    let none = no_pair c.loop-ending.nodes.frontier.pairs (λ some. true≢false (sym (c.if-not-has_waiting.ensures.1 some))) in
    searched_closed grown None c.closed-then-not-has_waiting.result c.closed-then-not-has_waiting.ensures (closes_refuted grown goes_on none)

pub returns-then-not-has_waiting-clause-sound : goal.returns-then-not-has_waiting-clause-sound
returns-then-not-has_waiting-clause-sound g c = sound_closed c.loop-ending.invariant None c.closed-then-not-has_waiting.result c.closed-then-not-has_waiting.ensures tt

pub returns-then-stamp-self-clause-searched : goal.returns-then-stamp-self-clause-searched
returns-then-stamp-self-clause-searched g c =
    let grown = c.loop-ending.invariant in
    let goes_on : IsEndingOf c.loop-ending.newest None = rw c.in_default.is at c.ending.ensures in
    let pair = some_pair c.loop-ending.nodes.frontier.pairs (c.if-not-has_waiting.ensures.0 refl) in
    searched_closed grown (Some endings.BudgetSpent) c.closed-then-stamp-self.result c.closed-then-stamp-self.ensures (closes_spent grown goes_on pair.0 pair.1 c.if-stamp-self.true)

pub closed-requires-clause-few : goal.closed-requires-clause-few
closed-requires-clause-few g c = few_grown c.loop-ending.invariant c.args.self.now.within.few_splits

pub closed-requires-then-not-has_waiting-clause-few : goal.closed-requires-then-not-has_waiting-clause-few
closed-requires-then-not-has_waiting-clause-few g c = few_grown c.loop-ending.invariant c.args.self.now.within.few_splits

pub closed-requires-then-stamp-self-clause-few : goal.closed-requires-then-stamp-self-clause-few
closed-requires-then-stamp-self-clause-few g c = few_grown c.loop-ending.invariant c.args.self.now.within.few_splits

pub split_best-requires : goal.split_best-requires
split_best-requires g c =
    let goes_on : IsEndingOf c.loop-ending.newest None = rw c.in_default.is at c.ending.ensures in
    let pair = some_pair c.loop-ending.nodes.frontier.pairs (c.if-not-has_waiting.ensures.0 refl) in
    (c.args.from, c.args.size, counts (g.M.Machine.acts c.args.meter.now) (g.M.Machine.copies c.args.meter.now), grows_further c.loop-ending.invariant goes_on pair.0 pair.1 c.if-stamp-self.false)

pub loop-ending-preserved : goal.loop-ending-preserved
loop-ending-preserved g c =
    let goes_on : IsEndingOf c.loop-ending.newest None = rw c.in_default.is at c.ending.ensures in
    let pair = some_pair c.loop-ending.nodes.frontier.pairs (c.if-not-has_waiting.ensures.0 refl) in
    c.in_ok-newest.ensures c.args.from c.args.size (counts (g.M.Machine.acts c.args.meter.now) (g.M.Machine.copies c.args.meter.now)) (grows_further c.loop-ending.invariant goes_on pair.0 pair.1 c.if-stamp-self.false)
