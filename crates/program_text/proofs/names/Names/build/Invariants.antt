use Rattle.std.proofs.Common.{◌≡◌, length, take, map, vec_items}
use Rattle.program_text.proofs.names.Names.build.Given as goal

abbrev pub invariant-loop-text : goal.invariant-loop-text
invariant-loop-text l = map vec_items l.names.keys ≡ take (length l.yielded) l.fn.texts
