use Rattle.pointer_symmetry.proofs.Inverses.{HasInverse}
use Rattle.pointer_symmetry.proofs.renamings.inverse.Given as goal

abbrev pub invariant-loop-pointer : goal.invariant-loop-pointer
invariant-loop-pointer l = HasInverse l.renaming l.pointer l.images
