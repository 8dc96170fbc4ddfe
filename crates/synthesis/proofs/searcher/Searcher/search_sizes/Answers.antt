use Rattle.std.proofs.Common.{◌≡◌, ◌∙◌, ◌++◌, ◌∷◌, [], None, refl, ap, arith}
use Rattle.refutation_tree.specs.declared.evidence.Answer.{Answer}
use Rattle.refutation_tree.specs.declared.evidence.Outcome.TheVariants.{Nothing}
use Rattle.refutation_tree.specs.declared.evidence.Tree.{Tree}
use Rattle.synthesis.specs.BestFirst.{best_first}
use Rattle.synthesis.specs.Inner.Working.{counts}
use Rattle.synthesis.proofs.SizesInTurn.{nothing_refuted, one_more_refuted, ended_answer, nothing_answer, nothing_worked, one_more_worked, answer_worked}
use Rattle.synthesis.proofs.searcher.Searcher.search_sizes.Goals as goal

pub loop-refuted-init : goal.loop-refuted-init
loop-refuted-init g c =
    let s = best_first (g.M.Machine.semantics c.args.self.now.machine.now) c.args.self.now.bounds.now in (
      nothing_refuted s c.args.self.now.bounds.now.budget c.new-trees.result c.new-trees.ensures,
      nothing_worked s c.args.self.now.bounds.now.budget c.new-trees.result c.new-trees.ensures (counts (g.M.Machine.acts c.args.meter.now) (g.M.Machine.copies c.args.meter.now)),
    )

pub ended-requires : goal.ended-requires
ended-requires g c = rw c.in-Some.is at c.in_ok-tree.ensures.sound

pub returns-in-Some-clause-answer : goal.returns-in-Some-clause-answer
returns-in-Some-clause-answer g c =
    let searched = c.in_ok-tree.field-0 in
    let is = c.in_ok-tree.ensures.searched in
    let told = c.ended.ensures in
    ended_answer (best_first (g.M.Machine.semantics c.args.self.now.machine.now) c.args.self.now.bounds.now) c.args.self.now.bounds.now.budget c.args.self.now.bounds.now.lines c.loop-refuted.refuted c.loop-refuted.stamp searched.stamp c.loop-refuted.trees c.push.new.self is.nodes c.in-Some.ending c.ended.result
    (record {
      refuted = c.loop-refuted.invariant.0;
      below = c.loop-refuted-test.true;
      searches = rw c.in-Some.is at is.searches;
      pushed = c.in_ok-push.ensures.ok ∙ ap (λ (tree : Tree). c.loop-refuted.trees ++ tree ∷ []) is.tree;
    })
    told.pointers told.asked told.instances told.trees told.concludes

pub returns-in-Some-clause-worked : goal.returns-in-Some-clause-worked
returns-in-Some-clause-worked g c =
    let s = best_first (g.M.Machine.semantics c.args.self.now.machine.now) c.args.self.now.bounds.now in
    let before = counts (g.M.Machine.acts c.args.meter.now) (g.M.Machine.copies c.args.meter.now) in
    let mid = counts (g.M.Machine.acts c.loop-refuted.meter) (g.M.Machine.copies c.loop-refuted.meter) in
    let now = counts (g.M.Machine.acts c.search_size.new.meter) (g.M.Machine.copies c.search_size.new.meter) in
    answer_worked s c.args.self.now.bounds.now.budget c.push.new.self before now c.ended.result c.ended.ensures.trees
    (one_more_worked s c.args.self.now.bounds.now.budget c.loop-refuted.trees c.push.new.self c.in_ok-tree.field-0.tree before mid now c.loop-refuted.invariant.1 c.in_ok-tree.ensures.searched.worked c.in_ok-push.ensures.ok)

pub loop-refuted-preserved : goal.loop-refuted-preserved
loop-refuted-preserved g c =
    let searched = c.in_ok-tree.field-0 in
    let is = c.in_ok-tree.ensures.searched in
    let s = best_first (g.M.Machine.semantics c.args.self.now.machine.now) c.args.self.now.bounds.now in
    let before = counts (g.M.Machine.acts c.args.meter.now) (g.M.Machine.copies c.args.meter.now) in
    let mid = counts (g.M.Machine.acts c.loop-refuted.meter) (g.M.Machine.copies c.loop-refuted.meter) in
    let now = counts (g.M.Machine.acts c.search_size.new.meter) (g.M.Machine.copies c.search_size.new.meter) in (
      one_more_refuted s c.args.self.now.bounds.now.budget c.loop-refuted.refuted c.loop-refuted.stamp searched.stamp c.loop-refuted.trees c.push.new.self is.nodes searched.tree searched.ending c.loop-refuted.invariant.0 is.searches c.in_default.is is.tree c.in_ok-push.ensures.ok,
      one_more_worked s c.args.self.now.bounds.now.budget c.loop-refuted.trees c.push.new.self searched.tree before mid now c.loop-refuted.invariant.1 is.worked c.in_ok-push.ensures.ok,
    )

pub returns-clause-answer : goal.returns-clause-answer
returns-clause-answer g c =
    let m = g.M.Machine.semantics c.args.self.now.machine.now in
    let all : c.loop-refuted.refuted ≡ c.args.self.now.bounds.now.lines = omega arith in
    let made : Answer = record {
      pointers = m.pointers;
      lines = c.args.self.now.bounds.now.lines;
      instances = m.instances;
      outcome = Nothing;
      trees = c.loop-refuted.trees;
      program = None;
      ends = c.new.result;
    } in
    nothing_answer (best_first m c.args.self.now.bounds.now) c.args.self.now.bounds.now.budget c.args.self.now.bounds.now.lines c.loop-refuted.stamp c.answer.result made c.answer.ensures (rw all at c.loop-refuted.invariant.0)
    refl refl refl refl refl c.new.ensures

pub returns-clause-worked : goal.returns-clause-worked
returns-clause-worked g c = rw c.answer.ensures c.loop-refuted.invariant.1
