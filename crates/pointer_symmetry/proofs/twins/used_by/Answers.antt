use Rattle.std.proofs.Common.{◌<◌, ◌≡◌, ◌||◌, length, take, sym, ◌∙◌, ap, arith}
use Rattle.std.specs.List.{list_any}
use Rattle.std.proofs.Math.Seq.{take-length}
use Rattle.pointer_symmetry.specs.Used.{names}
use Rattle.pointer_symmetry.proofs.Lines.{op_is_there, used_more}
use Rattle.pointer_symmetry.proofs.twins.used_by.Goals as goal

pub with_pointers_on-used-requires : goal.with_pointers_on-used-requires
with_pointers_on-used-requires g c = λ op is.
    op_is_there (g.M.Machine.semantics c.args.machine.now).ops c.args.partial.now c.loop-line.line op c.requires (sym c.at.ensures.value ∙ is)

pub loop-line-preserved : goal.loop-line-preserved
loop-line-preserved g c = λ pointer.
    let m = g.M.Machine.semantics c.args.machine.now in
    let q = c.args.partial.now in
    let inside : c.loop-line.line < length q = omega (arith, c.lines-line-end.ensures) in
    c.with_pointers_on-used.ensures pointer
    ∙ ap (λ b. b || names m pointer c.at.result) (c.loop-line.invariant pointer)
    ∙ ap (λ instr. list_any (names m pointer) (take c.loop-line.line q) || names m pointer instr) c.at.ensures.value
    ∙ sym (used_more m q c.loop-line.line pointer inside)

pub returns : goal.returns
returns g c = λ pointer.
    let m = g.M.Machine.semantics c.args.machine.now in
    let q = c.args.partial.now in
    let all : c.loop-line.line ≡ length q = omega (arith, c.lines-line-end.ensures) in
    c.loop-line.invariant pointer ∙ ap (λ lines. list_any (names m pointer) lines) (ap (λ line. take line q) all ∙ take-length q)
