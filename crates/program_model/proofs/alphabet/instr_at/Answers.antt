use Rattle.std.proofs.Common.{◌∙◌, ap, arith}
use Rattle.std.specs.Prelude.{slice_get}
use Rattle.program_model.proofs.Alphabets.{alphabet-inner, length-alphabet, get-inner_op, get-inner_jump}
use Rattle.program_model.proofs.alphabet.instr_at.Goals as goal

pub overflow_cast-jump : goal.overflow_cast-jump
overflow_cast-jump c = omega (arith, length-alphabet c.args.ops c.args.lines c.args.line (omega arith))

pub target_at-requires-clause-place : goal.target_at-requires-clause-place
target_at-requires-clause-place c = omega (arith, length-alphabet c.args.ops c.args.lines c.args.line (omega arith))

pub returns-then-rank-ops : goal.returns-then-rank-ops
returns-then-rank-ops c =
    ap (λ xs. slice_get xs c.args.rank) (alphabet-inner c.args.ops c.args.lines c.args.line (omega arith))
    ∙ get-inner_op c.args.ops c.args.lines c.args.line c.args.rank (omega arith)

pub returns-else-rank-ops : goal.returns-else-rank-ops
returns-else-rank-ops c =
    ap (λ xs. slice_get xs c.args.rank) (alphabet-inner c.args.ops c.args.lines c.args.line (omega arith))
    ∙ get-inner_jump c.args.ops c.args.lines c.args.line c.args.rank _ _ _ _ (omega arith) c.target_at.ensures c.cond_at.ensures
