use Rattle.std.proofs.Common.{◌≡◌, ◌∙◌, ap, subst, arith}
use Rattle.program_model.specs.declared.machine.TheConstants.{MAX_POINTERS}
use Rattle.program_model.specs.Renaming.{composed}
use Rattle.pointer_symmetry.proofs.Inverses.{HasInverse, inverse_is_renaming, goes_back, goes_forth}
use Rattle.pointer_symmetry.proofs.renamings.inverse.Goals as goal

pub unreachable-requires : goal.unreachable-requires
unreachable-requires c =
    let all : c.loop-pointer.pointer ≡ MAX_POINTERS = omega arith in
    c.in-None.ensures (inverse_is_renaming c.args.renaming.now c.loop-pointer.images
    (subst (λ count. HasInverse c.args.renaming.now count c.loop-pointer.images) all c.loop-pointer.invariant))

pub returns-clause-back : goal.returns-clause-back
returns-clause-back c =
    let all : c.loop-pointer.pointer ≡ MAX_POINTERS = omega arith in
    ap (λ images. composed c.args.renaming.now images) c.in-Some.ensures
    ∙ goes_back c.args.renaming.now c.loop-pointer.images
    (subst (λ count. HasInverse c.args.renaming.now count c.loop-pointer.images) all c.loop-pointer.invariant)

pub returns-clause-forth : goal.returns-clause-forth
returns-clause-forth c =
    let all : c.loop-pointer.pointer ≡ MAX_POINTERS = omega arith in
    ap (λ images. composed images c.args.renaming.now) c.in-Some.ensures
    ∙ goes_forth c.args.renaming.now c.loop-pointer.images
    (subst (λ count. HasInverse c.args.renaming.now count c.loop-pointer.images) all c.loop-pointer.invariant)
