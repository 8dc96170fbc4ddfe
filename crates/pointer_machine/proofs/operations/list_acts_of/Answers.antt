use Rattle.std.proofs.Common.{arith, ◌∙◌, ap, ◌++◌}
use Rattle.pointer_machine.specs.declared.form.Form.TheVariants.{Act}
use Rattle.pointer_machine.proofs.Counts.{tuples_few}
use Rattle.pointer_machine.proofs.Lists.{tuples_more, tuples_all}
use Rattle.pointer_machine.proofs.operations.list_acts_of.Goals as goal

pub pow-place-end-requires : goal.pow-place-end-requires
pow-place-end-requires c =
    rw c.from.ensures (omega (arith, tuples_few c.args.pointers c.args.params c.requires.few c.requires.params))

pub loop-place-preserved : goal.loop-place-preserved
loop-place-preserved c =
    tuples_more (λ args. Act c.args.schema args) c.args.pointers c.args.params c.loop-place.place _ _ _ _ c.args_at-args.ensures c.loop-place.invariant c.in_ok-push.ensures.items

pub returns : goal.returns
returns c =
    let power = rw c.from.ensures at c.pow-place-end.ensures in
    c.loop-place.invariant ∙ ap (λ items. c.args.listed.now.items ++ items) (tuples_all (λ args. Act c.args.schema args) c.args.pointers c.args.params c.loop-place.place (omega (arith, c.loop-place-test.false, power)))
