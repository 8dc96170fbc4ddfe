use Rattle.std.proofs.Common.{◌+◌, ◌*◌, ◌<◌, ◌∙◌, ap, sym, Some, arith}
use Rattle.std.specs.Prelude.{slice_get}
use Rattle.program_model.specs.Alphabet.{targets}
use Rattle.program_model.proofs.Alphabets.{alphabet-inner, get-inner_op, get-inner_jump, contains_op, contains_target, no_inner_end}
use Rattle.program_model.proofs.alphabet.rank_of.Goals as goal

pub returns-in_err-place-in-Goto-clause-none : goal.returns-in_err-place-in-Goto-clause-none
returns-in_err-place-in-Goto-clause-none c =
    rw c.from_residual.ensures (λ found. c.in_err-place-in-Goto.ensures.none (contains_target c.args.ops c.args.lines c.args.line c.in-Goto.target c.in-Goto.cond (omega arith) (rw c.in-Goto.is at found)))

pub returns-then-op-ops-clause-some : goal.returns-then-op-ops-clause-some
returns-then-op-ops-clause-some c =
    ap (λ xs. slice_get xs c.in-Op.op) (alphabet-inner c.args.ops c.args.lines c.args.line (omega arith))
    ∙ get-inner_op c.args.ops c.args.lines c.args.line c.in-Op.op (omega arith)
    ∙ ap Some (sym c.in-Op.is)

pub returns-in_ok-place-in-Goto-clause-some : goal.returns-in_ok-place-in-Goto-clause-some
returns-in_ok-place-in-Goto-clause-some c =
    ap (λ xs. slice_get xs (c.args.ops + 4 * c.from.result + c.cond_place.result)) (alphabet-inner c.args.ops c.args.lines c.args.line (omega arith))
    ∙ get-inner_jump c.args.ops c.args.lines c.args.line _ c.from.result c.cond_place.result c.in-Goto.target c.in-Goto.cond (omega arith)
    (ap (slice_get (targets c.args.lines c.args.line)) c.from.ensures ∙ c.in_ok-place-in-Goto.ensures.some) c.cond_place.ensures
    ∙ ap Some (sym c.in-Goto.is)

pub returns-else-op-ops-clause-none : goal.returns-else-op-ops-clause-none
returns-else-op-ops-clause-none c = λ found.
    let below : c.in-Op.op < c.args.ops = (contains_op c.args.ops c.args.lines c.args.line c.in-Op.op (omega arith)).0 (rw c.in-Op.is at found) in
    omega arith

pub returns-in-End-instr-clause-none : goal.returns-in-End-instr-clause-none
returns-in-End-instr-clause-none c = λ found. no_inner_end c.args.ops c.args.lines c.args.line (omega arith) (rw c.in-End-instr.is at found)
