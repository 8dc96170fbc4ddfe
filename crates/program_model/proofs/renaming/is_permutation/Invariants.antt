use Rattle.program_model.proofs.Renamings.{AreNew}
use Rattle.program_model.proofs.renaming.is_permutation.Given as goal

-- each number so far is a pointer's, and stands at no place before
abbrev pub invariant-loop-place : goal.invariant-loop-place
invariant-loop-place l = AreNew l.numbers l.place
