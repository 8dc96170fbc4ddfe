use Rattle.std.proofs.Common.{◌≡◌, sym, ◌∙◌, subst, arith}
use Rattle.program_model.specs.declared.machine.TheConstants.{MAX_POINTERS}
use Rattle.program_model.specs.Renaming.{IsRenaming}
use Rattle.pointer_symmetry.proofs.Inverses.{HasComposed, composed_is_renaming, composed_all}
use Rattle.pointer_symmetry.proofs.renamings.compose.Goals as goal

pub unreachable-requires : goal.unreachable-requires
unreachable-requires c =
    let all : c.loop-pointer.pointer ≡ MAX_POINTERS = omega arith in
    let so = subst (λ count. HasComposed c.args.first.now c.args.then.now count c.loop-pointer.images) all c.loop-pointer.invariant in
    let are = so.are (omega arith) in
    c.in-None.ensures (subst IsRenaming (sym (composed_all c.args.first.now c.args.then.now c.loop-pointer.images so)) (composed_is_renaming c.args.first.now c.args.then.now are.0 are.1))

pub returns : goal.returns
returns c =
    let all : c.loop-pointer.pointer ≡ MAX_POINTERS = omega arith in
    c.in-Some.ensures
    ∙ composed_all c.args.first.now c.args.then.now c.loop-pointer.images
    (subst (λ count. HasComposed c.args.first.now c.args.then.now count c.loop-pointer.images) all c.loop-pointer.invariant)
