use Rattle.std.proofs.Common.{◌∙◌, ◌<◌, length, ap, get_or, arith}
use Rattle.pddl_task.specs.Parts.{object_of}
use Rattle.pddl_task.proofs.NamesOf.{one_made}
use Rattle.pddl_task.proofs.SameType.{at_same, number_at, numbers_long, object_made}
use Rattle.pddl_task.proofs.entries.add_objects.Goals as goal

pub bounds-numbers-place : goal.bounds-numbers-place
bounds-numbers-place c =
    let long = numbers_long c.args.types.now c.args.list.now c.as_slice-numbers.result.now (c.as_slice-numbers.ensures ∙ c.in_ok-known.ensures) in
    let same = ap length c.as_slice-items.ensures in
    omega (arith, long, same)

pub loop-place-preserved : goal.loop-place-preserved
loop-place-preserved c =
    let here = c.index-items-place.result in
    let same = ap length c.as_slice-items.ensures in
    let within : c.loop-place.place < length c.args.list.now = omega (arith, same, c.loop-place-test.true) in
    let is = at_same c.args.list.now c.as_slice-items.result.now c.loop-place.place here c.index-items-place.is c.as_slice-items.ensures in
    let number = number_at c.args.types.now c.args.list.now c.loop-place.place here c.as_slice-numbers.result.now within is (c.as_slice-numbers.ensures ∙ c.in_ok-known.ensures) in
    one_made (object_of c.args.types.now) c.args.list.now c.loop-place.place here c.args.entries.now c.loop-place.entries c.push.new.self _ within is c.loop-place.invariant
    (object_made c.args.types.now here c.in_ok-of.field-0 (get_or c.as_slice-numbers.result.now c.loop-place.place 0) (c.in_ok-of.ensures ∙ c.as_slice.ensures) number)
    c.in_ok-push.ensures.ok
