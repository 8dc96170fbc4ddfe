use Rattle.std.proofs.Common.{◌≡◌, ◌+◌, ◌-◌, ◌++◌, Some, refl, ◌∙◌, ap, subst, arith}
use Rattle.std.specs.List.{range_with_len}
use Rattle.std.proofs.lemmas.Option.{slice_get_read}
use Rattle.synthesis.specs.Inner.Walking.{MarksFirst}
use Rattle.synthesis.proofs.Walks.{node_marked, marked_further, range_more, range_done, node_alone}
use Rattle.synthesis.proofs.walk.+add_marks.Goals as goal

pub loop-child-init : goal.loop-child-init
loop-child-init t c = λ remaining nodes h.
    let here = slice_get_read c.args.held.now _ c.args.number c.index-held-number.result refl c.requires.here c.index-held-number.is ∙ ap Some c.in-Split.is in
    let marked = rw (c.mark.ensures, c.in-Split.is) at c.in_ok-push.ensures.items in
    let count : _ ≡ c.in-Split.first + c.alphabet_len.result - c.in-Split.first = omega (arith, c.alphabet_len.ensures.length) in
    subst (λ n. MarksFirst c.args.ops c.args.size c.args.held.now (range_with_len c.in-Split.first n ++ remaining) nodes c.args.marks.now.items c.push.new.self.items) count
    (node_marked c.args.ops c.args.size c.args.held.now c.args.number _ remaining nodes c.args.marks.now.items c.push.new.self.items here marked h)

pub loop-child-preserved : goal.loop-child-preserved
loop-child-preserved t c = λ remaining nodes h.
    let end = c.in-Split.first + c.alphabet_len.result in
    let one = c.loop-child.invariant remaining nodes h in
    let rest = range_with_len (c.loop-child.child + 1) (end - (c.loop-child.child + 1)) ++ remaining in
    marked_further c.args.ops c.args.size c.args.held.now _ rest nodes c.args.marks.now.items c.loop-child.marks.items c.add_marks.new.marks.items one
    (c.in_ok-add_marks.ensures rest one.others (range_more c.args.ops c.args.size c.args.held.now c.loop-child.child end remaining one.others c.loop-child-test.true one.follow))

pub returns-after-loop-child : goal.returns-after-loop-child
returns-after-loop-child t c = λ remaining nodes h.
    range_done c.args.ops c.args.size c.args.held.now c.loop-child.child (c.in-Split.first + c.alphabet_len.result) remaining nodes c.args.marks.now.items c.loop-child.marks.items c.loop-child-test.false (c.loop-child.invariant remaining nodes h)

pub returns-in_default : goal.returns-in_default
returns-in_default t c = λ remaining nodes h.
    let here = slice_get_read c.args.held.now _ c.args.number c.index-held-number.result refl c.requires.here c.index-held-number.is in
    let marked = rw c.mark.ensures at c.in_ok-push.ensures.items in
    node_alone c.args.ops c.args.size c.args.held.now c.args.number c.index-held-number.result remaining nodes c.args.marks.now.items c.push.new.self.items c.in_default.not-Split
    (node_marked c.args.ops c.args.size c.args.held.now c.args.number c.index-held-number.result remaining nodes c.args.marks.now.items c.push.new.self.items here marked h)
