use Rattle.std.proofs.Common.{arith}
use Rattle.program_text.proofs.Puts.{has_text_of}
use Rattle.program_text.proofs.Jumps.{instr_there, no_instr}
use Rattle.program_text.proofs.reading.jump_of.Goals as goal

pub has_text-requires : goal.has_text-requires
has_text-requires c =
    has_text_of c.args.names.now c.args.lines c.args.line c.instr_at-jump.result (omega arith)
    (instr_there c.args.names.now c.count-ops.result c.args.lines c.args.line c.loop-rank.rank c.instr_at-jump.result c.count-ops.ensures.count c.instr_at-jump.ensures)

pub returns-then-has_text-clause-some : goal.returns-then-has_text-clause-some
returns-then-has_text-clause-some c = (
  instr_there c.args.names.now c.count-ops.result c.args.lines c.args.line c.loop-rank.rank c.instr_at-jump.result c.count-ops.ensures.count c.instr_at-jump.ensures,
  c.has_text.ensures.0 c.if-has_text.true,
)

pub returns-clause-none : goal.returns-clause-none
returns-clause-none c =
    no_instr c.args.names.now c.count-ops.result c.args.lines c.args.line c.loop-rank.rank c.args.text.now c.count-ops.ensures.count c.requires.line c.requires.no_operation (omega arith) c.loop-rank.invariant
