use Rattle.std.proofs.Common.{arith}
use Rattle.refutation_check.proofs.Waiting.{line_within, rank_within, instr_of_rank}
use Rattle.refutation_check.proofs.family.Family.instr.Goals as goal

pub instr_at-requires-clause-lines : goal.instr_at-requires-clause-lines
instr_at-requires-clause-lines g c = omega (arith, c.lines.ensures.count, c.lines.ensures.few)

pub instr_at-requires-clause-line : goal.instr_at-requires-clause-line
instr_at-requires-clause-line g c =
    line_within (g.M.Machine.semantics c.args.machine.now) (g.M.Machine.belongs c.args.machine.now) c.args.self.now c.requires c.ops.result c.lines.result c.ops.ensures.value c.lines.ensures.count

pub instr_at-requires-clause-rank : goal.instr_at-requires-clause-rank
instr_at-requires-clause-rank g c =
    rank_within (g.M.Machine.semantics c.args.machine.now) (g.M.Machine.belongs c.args.machine.now) c.args.self.now c.requires c.ops.result c.lines.result c.ops.ensures.value c.lines.ensures.count

pub returns : goal.returns
returns g c =
    instr_of_rank (g.M.Machine.semantics c.args.machine.now) (g.M.Machine.belongs c.args.machine.now) c.args.self.now c.requires c.ops.result c.lines.result c.ops.ensures.value c.lines.ensures.count c.instr_at.result c.instr_at.ensures
