use Rattle.std.proofs.Common.{◌≡◌, map}
use Rattle.family_gen.specs.Domains.{word}
use Rattle.family_gen.proofs.pieces.words.Given as goal

abbrev pub invariant-loop-text : goal.invariant-loop-text
invariant-loop-text l = l.words ≡ map word l.yielded
