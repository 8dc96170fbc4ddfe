use Rattle.pointer_symmetry.proofs.Inverses.{HasComposed}
use Rattle.pointer_symmetry.proofs.renamings.compose.Given as goal

abbrev pub invariant-loop-pointer : goal.invariant-loop-pointer
invariant-loop-pointer l = HasComposed l.first l.then l.pointer l.images
