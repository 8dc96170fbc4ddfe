use Rattle.std.proofs.Common.{◌≡◌, zero, arith}
use Rattle.pointer_machine.proofs.Digits.{AreDigits, digit_more, all_digits}
use Rattle.pointer_machine.proofs.operations.args_at.Goals as goal

pub loop-index-preserved : goal.loop-index-preserved
loop-index-preserved c =
    digit_more c.from-pointers.result c.args.params c.args.place c.loop-index.rest c.loop-index.index c.loop-index.digits (omega (arith, c.from-pointers.ensures, c.requires.some)) c.requires.params c.loop-index-test.true c.loop-index.invariant

pub returns : goal.returns
returns c =
    let done : c.loop-index.index ≡ zero = omega (arith, c.loop-index-test.false) in
    let digits : AreDigits c.from-pointers.result c.args.params c.args.place c.loop-index.digits c.loop-index.rest zero = rw done at c.loop-index.invariant in
    rw (← c.from-pointers.ensures, c.of.ensures) (all_digits c.from-pointers.result c.args.params c.args.place c.loop-index.rest c.loop-index.digits digits)
