use Rattle.std.proofs.Common.{arith}
use Rattle.answer_lines.proofs.Lengths.{line_fits}
use Rattle.answer_lines.proofs.room.line_room.Goals as goal

pub returns-clause-room : goal.returns-clause-room
returns-clause-room c = λ text is.
    line_fits c.args.names.now text c.loop-op.room c.loop-op.invariant.plain
    (λ op within. c.loop-op.invariant.texts op (omega (arith, within, c.loop-op-test.false, c.loop-op.auto.op-end, c.count-op-end.ensures.count))) is
