use Rattle.std.proofs.Common.{List, ℕ, Some, sym, ◌∙◌, ap}
use Rattle.std.specs.Prelude.{nat_eq}
use Rattle.std.specs.Cmp.Lexicographic.{pointwise}
use Rattle.bfgp_outside.proofs.HeldFiles.{found, passed, ended}
use Rattle.bfgp_outside.proofs.memory_shelf.bytes_of.Goals as goal

pub returns-then-eq : goal.returns-then-eq
returns-then-eq c =
    let tests = sym c.if-eq.true ∙ c.eq.ensures ∙ ap (λ (l : List ℕ). pointwise nat_eq l c.args.name.now) c.as_slice.ensures in
    ap (λ (l : List ℕ). Some l) c.as_slice-then-eq.ensures
    ∙ sym (c.loop-file.invariant ∙ found c.args.held.now c.loop-file.file-index c.file-item.result c.args.name.now c.loop-file-test.true c.file-item.is tests)

pub loop-file-preserved : goal.loop-file-preserved
loop-file-preserved c =
    let tests = sym c.if-eq.false ∙ c.eq.ensures ∙ ap (λ (l : List ℕ). pointwise nat_eq l c.args.name.now) c.as_slice.ensures in
    c.loop-file.invariant ∙ passed c.args.held.now c.loop-file.file-index c.file-item.result c.args.name.now c.loop-file-test.true c.file-item.is tests

pub returns : goal.returns
returns c = sym (c.loop-file.invariant ∙ ended c.args.held.now c.loop-file.file-index c.args.name.now c.loop-file-test.false)
